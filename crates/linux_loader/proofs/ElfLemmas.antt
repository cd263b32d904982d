-- Program headers and the segments that they name, one after the other.
use Rattle.std.proofs.Common.{◌≡◌, ◌∙◌, ℕ, suc, ◌+◌, ◌*◌, ◌-◌, ◌<◌, ◌≤◌, List, [], ◌∷◌, ◌++◌, add-one, append-nil, append_assoc, drop, length, Option, Some, None, Result, Ok, Err, ap, get_or, refl, subst, sym, take}
use Rattle.std.proofs.Math.Seq.{drop-cons}
use Rattle.std.proofs.lemmas.List.{drop_all, take_rest}
use Rattle.linux_loader.specs.Elf.{program_header, program_headers, segment_of, segments_of, onto}
use Rattle.linux_loader.specs.Error.{and_then}
use Rattle.linux_loader.specs.declared.elf.header.ProgramHeader.{ProgramHeader}
use Rattle.linux_loader.specs.declared.error.LoaderError.{LoaderError}
use Rattle.linux_loader.specs.declared.segment.Segment.{Segment}

-- one program header more is read
pub headers_step : (n : ℕ) (table : List ℕ)
    → program_headers n table ++ program_header (drop (56 * n) table) ∷ [] ≡ program_headers (n + 1) table
unfolding program_headers
headers_step n table = rw add-one refl

pub headers_pushed : (n : ℕ) (table : List ℕ) (old new : List ProgramHeader) (x : ProgramHeader)
    → old ≡ program_headers n table
    → x ≡ program_header (take (length table - 56 * n) (drop (56 * n) table))
    → new ≡ old ++ x ∷ [] → new ≡ program_headers (n + 1) table
headers_pushed n table old new x was is pushed =
    let step = headers_step n table in
    let header = ap program_header (take_rest table (56 * n)) in cc

pub headers_none : (table : List ℕ) → [] ≡ program_headers 0 table
unfolding program_headers
headers_none table = refl

-- what is found so far, and what comes of the rest, is what comes of all
module _ (size offset : ℕ) (all : List ProgramHeader) where
  pub record Comes (done : List Segment) (rest : List ProgramHeader) : Type 0 where
    pub is : segments_of size offset all ≡ and_then (segments_of size offset rest) (λ more. Ok (done ++ more))

  more_of : (r : Result (List Segment) LoaderError) (done : List Segment) (s : Segment)
      → and_then (and_then r (λ rest. Ok (s ∷ rest))) (λ more. Ok (done ++ more))
      ≡ and_then r (λ more. Ok ((done ++ s ∷ []) ++ more))
  more_of (Ok x) done s = ap (λ (xs : List Segment). Ok xs) (sym (append_assoc done (s ∷ []) x))
  more_of (Err e) done s = refl

  over_of : (r : Result (List Segment) LoaderError) (done : List Segment)
      → and_then (and_then r (λ rest. Ok (onto None rest))) (λ more. Ok (done ++ more))
      ≡ and_then r (λ more. Ok (done ++ more))
  over_of (Ok x) done = refl
  over_of (Err e) done = refl

  pub comes_on : (done : List Segment) (p : ProgramHeader) (ps : List ProgramHeader) (s : Segment)
      → Comes done (p ∷ ps) → segment_of size offset p ≡ Ok (Some s) → Comes (done ++ s ∷ []) ps
  unfolding segments_of
  comes_on done p ps s h is = record {
    is = h.is ∙ ap (λ (r : Result (Option Segment) LoaderError). and_then (and_then r (λ s.
        and_then (segments_of size offset ps) (λ rest. Ok (onto s rest)))) (λ more. Ok (done ++ more))) is
        ∙ more_of (segments_of size offset ps) done s;
  }

  pub comes_over : (done : List Segment) (p : ProgramHeader) (ps : List ProgramHeader)
      → Comes done (p ∷ ps) → segment_of size offset p ≡ Ok None → Comes done ps
  unfolding segments_of
  comes_over done p ps h is = record {
    is = h.is ∙ ap (λ (r : Result (Option Segment) LoaderError). and_then (and_then r (λ s.
        and_then (segments_of size offset ps) (λ rest. Ok (onto s rest)))) (λ more. Ok (done ++ more))) is
        ∙ over_of (segments_of size offset ps) done;
  }

  pub comes_wrong : (done : List Segment) (p : ProgramHeader) (ps : List ProgramHeader) (e : LoaderError)
      → Comes done (p ∷ ps) → segment_of size offset p ≡ Err e → segments_of size offset all ≡ Err e
  unfolding segments_of
  comes_wrong done p ps e h is =
      h.is ∙ ap (λ (r : Result (Option Segment) LoaderError). and_then (and_then r (λ s.
      and_then (segments_of size offset ps) (λ rest. Ok (onto s rest)))) (λ more. Ok (done ++ more))) is

  pub comes_last : (done : List Segment) → Comes done [] → segments_of size offset all ≡ Ok done
  unfolding segments_of
  comes_last done h = h.is ∙ ap (λ (xs : List Segment). Ok xs) (append-nil done)

  -- the same at a place of the list
  pub comes_on_at : (done : List Segment) (i : ℕ) (d : ProgramHeader) (s : Segment) → Comes done (drop i all)
      → i < length all → Ok (Some s) ≡ segment_of size offset (get_or all i d)
      → Comes (done ++ s ∷ []) (drop (i + 1) all)
  comes_on_at done i d s h l is = rw add-one
      (comes_on done (get_or all i d) (drop (suc i) all) s (subst (Comes done) (drop-cons all i d l) h) (sym is))

  pub comes_over_at : (done : List Segment) (i : ℕ) (d : ProgramHeader) → Comes done (drop i all) → i < length all
      → Ok None ≡ segment_of size offset (get_or all i d) → Comes done (drop (i + 1) all)
  comes_over_at done i d h l is = rw add-one
      (comes_over done (get_or all i d) (drop (suc i) all) (subst (Comes done) (drop-cons all i d l) h) (sym is))

  pub comes_wrong_at : (done : List Segment) (i : ℕ) (d : ProgramHeader) (e : LoaderError)
      → Comes done (drop i all) → i < length all → Err e ≡ segment_of size offset (get_or all i d)
      → segments_of size offset all ≡ Err e
  comes_wrong_at done i d e h l is =
      comes_wrong done (get_or all i d) (drop (suc i) all) e (subst (Comes done) (drop-cons all i d l) h) (sym is)

  pub comes_last_at : (done : List Segment) (i : ℕ) → Comes done (drop i all) → length all ≤ i
      → segments_of size offset all ≡ Ok done
  comes_last_at done i h l = comes_last done (subst (Comes done) (drop_all i all l) h)
