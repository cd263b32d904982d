-- Looks at a text one after another, and those of a memory that stands still.
use Rattle.std.proofs.Common.{◌≡◌, ◌∙◌, ℕ, ◌+◌, ◌-◌, ◌<◌, ◌≤◌, List, [], ◌∷◌, ◌++◌, length, take, drop, Result, Ok, Err, refl, sym, ap, subst, arith, append-nil, length-append, length-drop, length-take, take_all}
use Rattle.std.proofs.lemmas.List.{drop-drop, drop_all, drop_at, length-take-le, take_at}
use Rattle.std.proofs.Math.Seq.{take-add}
use borrow.Rule.Slice.PartMut.{put_mid}
use Rattle.vm_memory_guest.specs.declared.region.error.GuestMemoryError.{GuestMemoryError}
use Rattle.vm_memory_device.specs.Chain.{Entry}
use Rattle.virtio_blk.specs.Disk.{joined}
use Rattle.virtio_blk.specs.Looks.{Finds, FindsAll, found_in}

module _ {S : Type 0} (look : S → List Entry → ℕ → Result (List ℕ) GuestMemoryError → S → Type 0) (es : List Entry)
    (n : ℕ) (old : S) where
  -- so many of the first N bytes were found, and lie in a buffer
  pub record FetchedSoFar (filled : ℕ) (buffer : List ℕ) (left : List Entry) (now : S) : Type 0 where
    pub pieces : List (List ℕ)
    pub finds : Finds look es n pieces old now
    pub most : filled ≤ n
    pub size : length buffer ≡ n
    pub are : joined pieces ≡ take filled buffer
    pub place : left ≡ drop filled es

  pub fetched_none : (buffer : List ℕ) → length buffer ≡ n → FetchedSoFar 0 buffer es old
  fetched_none buffer size =
      record { pieces = []; finds = refl; most = omega arith; size = size; are = refl; place = refl }

  module _ (filled : ℕ) (buffer got : List ℕ) (left : List Entry) (now new : S)
      (h : FetchedSoFar filled buffer left now) (short : filled < n) where
    abbrev rest : List ℕ
    rest = take (length buffer - filled) (drop filled buffer)

    rest_size : length rest ≡ n - filled
    rest_size =
        omega (arith, length-take (length buffer - filled) (drop filled buffer), length-drop filled buffer, h.size)

    front_size : length (take filled buffer) ≡ filled
    front_size = length-take-le filled buffer (omega (arith, h.size, h.most))

    count_is : length (joined h.pieces) ≡ filled
    count_is = ap length h.are ∙ front_size

    -- the next look is at all that is left
    looked_at : (found : Result (List ℕ) GuestMemoryError) → look now left (length rest) found new
        → look now (drop (length (joined h.pieces)) es) (n - length (joined h.pieces)) found new
    looked_at found looked =
        subst (λ k. look now (drop k es) (n - k) found new) (sym count_is)
        (subst (λ k. look now (drop filled es) k found new) rest_size
        (subst (λ (ls : List Entry). look now ls (length rest) found new) h.place looked))

    part : put_mid filled (length buffer - filled) buffer got ≡ take filled buffer ++ got
    part =
        ap (λ (xs : List ℕ). take filled buffer ++ (got ++ xs))
        (drop_all (length buffer - filled) (drop filled buffer) (omega (arith, length-drop filled buffer)))
        ∙ ap (λ (xs : List ℕ). take filled buffer ++ xs) (append-nil got)

    pub fetched_more : (count : ℕ) (after : List Entry) → look now left (length rest) (found_in got (Ok count)) new
        → length got ≡ length rest → count ≤ length rest → after ≡ drop count left
        → FetchedSoFar (filled + count) (put_mid filled (length buffer - filled) buffer got) after new
    fetched_more count after looked size few place = record {
      pieces = take count got ∷ h.pieces;
      finds = (omega (arith, count_is, short), (now, h.finds, looked_at (Ok (take count got)) looked));
      most = omega (arith, few, rest_size, h.most);
      size = ap length part ∙ length-append (take filled buffer) got
          ∙ (let e : length (take filled buffer) + length got ≡ n =
          omega (arith, front_size, size, rest_size, short) in e);
      are = ap (λ (xs : List ℕ). xs ++ take count got) h.are
          ∙ sym (ap (take (filled + count)) part ∙ take-add filled count (take filled buffer ++ got)
          ∙ ap (λ (xs : List ℕ). xs ++ take count (drop filled (take filled buffer ++ got)))
          (take_at (take filled buffer) got filled front_size)
          ∙ ap (λ (xs : List ℕ). take filled buffer ++ take count xs)
          (drop_at (take filled buffer) got filled front_size));
      place = place ∙ ap (drop count) h.place ∙ drop-drop count filled es;
    }

    pub fetched_failed : (e : GuestMemoryError) → look now left (length rest) (Err e) new
        → FindsAll look es n old (Err e) new
    fetched_failed e looked =
        (h.pieces, now, h.finds, (omega (arith, count_is, short), looked_at (Err e) looked))

  pub rest_some : (filled : ℕ) (buffer : List ℕ) (left : List Entry) (now : S) → FetchedSoFar filled buffer left now
      → filled < n → 0 < length (take (length buffer - filled) (drop filled buffer))
  rest_some filled buffer left now h short =
      let e = rest_size filled buffer buffer left now now h short in omega (arith, e, short)

  pub rest_fits : (filled : ℕ) (buffer : List ℕ) (left : List Entry) (now : S) → FetchedSoFar filled buffer left now
      → filled < n → n ≤ length es → length (take (length buffer - filled) (drop filled buffer)) ≤ length left
  rest_fits filled buffer left now h short enough =
      let e = rest_size filled buffer buffer left now now h short in
      omega (arith, e, ap length h.place, length-drop filled es, enough)

  pub fetched_all : (filled : ℕ) (buffer : List ℕ) (left : List Entry) (now : S)
      → FetchedSoFar filled buffer left now → n ≤ filled → FindsAll look es n old (Ok buffer) now
  fetched_all filled buffer left now h done = (
    h.pieces,
    h.finds,
    sym (h.are ∙ take_all filled buffer (omega (arith, h.size, done))),
    h.size,
  )
