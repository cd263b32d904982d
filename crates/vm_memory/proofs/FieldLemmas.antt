-- What is read of the words of a line is what they spell, kind by kind.
use Rattle.std.proofs.Common.{◌≡◌, ◌∙◌, ℕ, Bool, true, false, List, [], ◌∷◌, map, Option, Some, None, refl, sym, ap, subst, inl, inr, codes, rules}
use Rattle.std.specs.Str.{bytes_eq}
use Rattle.std.proofs.lemmas.Option.{same_Some, none-some}
use Rattle.vm_memory.specs.Words.{Each, IsNumber, word_of_access, word_of_switch, bytes_of_width}
use Rattle.vm_memory.specs.Lines.{IsField, Field, word, number, bytes, source, sink, fields_of_bitmap}
use Rattle.vm_memory.specs.Reading.{Read, each, number_of, bytes_of, source_of, sink_of, width_of, permissions_of, switch_of, bitmap_named, ◌>>=◌}
use Rattle.vm_memory.specs.Reading.{number_at, address_at, width_at, permissions_at, switch_at, bitmap_at, block_range_at, bytes_at, source_at, sink_at, numbers_at}
use Rattle.vm_memory_base.specs.declared.address.GuestAddress.{GuestAddress}
use Rattle.vm_memory_base.specs.declared.bitmap.BitmapId.{BitmapId}
use Rattle.vm_memory_base.specs.declared.bitmap.BitmapId.TheVariants.{Block, Space}
use Rattle.vm_memory.specs.declared.machine.command.BlockRange.{BlockRange}
use Rattle.vm_memory.specs.declared.machine.command.Width.{Width}
use Rattle.vm_memory.specs.declared.machine.command.Width.TheVariants.{One, Two, Four, Eight}
use Rattle.vm_memory_base.specs.declared.iotlb.Permissions.{Permissions}
use Rattle.vm_memory_base.specs.declared.iotlb.Permissions.TheVariants as permissions
use Rattle.vm_memory_base.specs.declared.io.scripted.SourceStep.{SourceStep}
use Rattle.vm_memory_base.specs.declared.io.scripted.SinkStep.{SinkStep}
use Rattle.vm_memory.proofs.SpellingLemmas.{both_read, chosen, same_word, reads-number, reads-bytes, reads-source, reads-sink, reads-each}

-- ---- what is left

pub none_left : (ws : List (List ℕ)) → Each IsField ws [] → ws ≡ []
none_left [] h = refl
none_left (w ∷ ws) h = absurd h

pub last_read : {ws : List (List ℕ)} → ws ≡ [] → Each IsField ws []
last_read {ws} e = subst (λ l. Each IsField l []) (sym e) tt

pub same_read : {A : Type 0} {x y : A} {left rest : List (List ℕ)}
    → ◌≡◌ {A = Read A} (Some (x, left)) (Some (y, rest)) → (x ≡ y) × (left ≡ rest)
same_read {x = x} {y = y} {left = left} {rest = rest} e =
    let pair : (x, left) ≡ (y, rest) = same_Some _ _ e in (ap (λ p. p.0) pair, ap (λ p. p.1) pair)

-- ---- from what is spelled to what is read

-- the first of the words spells so, and what is left spells the other fields
abbrev pub Taken : {A : Type 0} → Read A → A → List Field → Type 0
Taken read x fields = (left : List (List ℕ)) × (read ≡ Some (x, left)) × Each IsField left fields

pub takes-number : (ws : List (List ℕ)) (n : ℕ) (fs : List Field) → Each IsField ws (number n ∷ fs)
    → Taken (number_at ws) n fs
unfolding number_at
takes-number [] n fs h = absurd h
takes-number (w ∷ ws) n fs h = (ws, rw (reads-number.from w n h.0) refl, h.1)

pub takes-address : (ws : List (List ℕ)) (a : GuestAddress) (fs : List Field) → Each IsField ws (number a.0 ∷ fs)
    → Taken (address_at ws) a fs
unfolding address_at
takes-address ws a fs h = let n = takes-number ws a.0 fs h in (n.0, rw n.1 refl, n.2)

pub takes-bytes : (ws : List (List ℕ)) (bs : List ℕ) (fs : List Field) → Each IsField ws (bytes bs ∷ fs)
    → Taken (bytes_at ws) bs fs
unfolding bytes_at
takes-bytes [] bs fs h = absurd h
takes-bytes (w ∷ ws) bs fs h = (ws, rw (reads-bytes.from w bs h.0) refl, h.1)

pub takes-source : (ws : List (List ℕ)) (steps : List SourceStep) (fs : List Field)
    → Each IsField ws (source steps ∷ fs) → Taken (source_at ws) steps fs
unfolding source_at
takes-source [] steps fs h = absurd h
takes-source (w ∷ ws) steps fs h =
    (ws, ap (λ o. o >>= (λ s. Some (s, ws))) (reads-source.from w steps h.0), h.1)

pub takes-sink : (ws : List (List ℕ)) (steps : List SinkStep) (fs : List Field) → Each IsField ws (sink steps ∷ fs)
    → Taken (sink_at ws) steps fs
unfolding sink_at
takes-sink [] steps fs h = absurd h
takes-sink (w ∷ ws) steps fs h =
    (ws, ap (λ o. o >>= (λ s. Some (s, ws))) (reads-sink.from w steps h.0), h.1)

permissions-from : (access : Permissions) → permissions_of (word_of_access access) ≡ Some access
permissions-from permissions.No = refl
permissions-from permissions.Read = refl
permissions-from permissions.Write = refl
permissions-from permissions.ReadWrite = refl

pub takes-access : (ws : List (List ℕ)) (access : Permissions) (fs : List Field)
    → Each IsField ws (word (word_of_access access) ∷ fs) → Taken (permissions_at ws) access fs
unfolding permissions_at
takes-access [] access fs h = absurd h
takes-access (w ∷ ws) access fs h =
    (ws, ap (λ o. o >>= (λ p. Some (p, ws))) (ap permissions_of h.0 ∙ permissions-from access), h.1)

switch-from : (on : Bool) → switch_of (word_of_switch on) ≡ Some on
switch-from true = refl
switch-from false = refl

pub takes-switch : (ws : List (List ℕ)) (on : Bool) (fs : List Field) → Each IsField ws (word (word_of_switch on) ∷ fs)
    → Taken (switch_at ws) on fs
unfolding switch_at
takes-switch [] on fs h = absurd h
takes-switch (w ∷ ws) on fs h =
    (ws, ap (λ o. o >>= (λ s. Some (s, ws))) (ap switch_of h.0 ∙ switch-from on), h.1)

width-from : (width : Width) → width_of (bytes_of_width width) ≡ Some width
width-from One = refl
width-from Two = refl
width-from Four = refl
width-from Eight = refl

pub takes-width : (ws : List (List ℕ)) (width : Width) (fs : List Field)
    → Each IsField ws (number (bytes_of_width width) ∷ fs) → Taken (width_at ws) width fs
unfolding width_at
takes-width ws width fs h =
    let n = takes-number ws (bytes_of_width width) fs h in
    (n.0, rw n.1 (ap (λ o. o >>= (λ x. Some (x, n.0))) (width-from width)), n.2)

pub takes-range : (ws : List (List ℕ)) (r : BlockRange) (fs : List Field)
    → Each IsField ws (number r.block ∷ number r.offset ∷ number r.len ∷ fs) → Taken (block_range_at ws) r fs
unfolding block_range_at
takes-range ws r fs h =
    let block = takes-number ws r.block _ h in
    let offset = takes-number block.0 r.offset _ block.2 in
    let len = takes-number offset.0 r.len fs offset.2 in
    (len.0, rw (block.1, offset.1, len.1) refl, len.2)

pub takes-bitmap : (ws : List (List ℕ)) (id : BitmapId) → Each IsField ws (fields_of_bitmap id)
    → bitmap_at ws ≡ Some (id, [])
unfolding bitmap_at
takes-bitmap [] (Block n) h = absurd h
takes-bitmap [] (Space n) h = absurd h
takes-bitmap (w ∷ ws) (Block n) h =
    let a = takes-number ws n [] h.1 in
    ap (λ v. bitmap_named v >>= (λ make. number_at ws >>= (λ m. Some (make m.0, m.1)))) h.0
    ∙ rw (a.1, none_left a.0 a.2) refl
takes-bitmap (w ∷ ws) (Space n) h =
    let a = takes-number ws n [] h.1 in
    ap (λ v. bitmap_named v >>= (λ make. number_at ws >>= (λ m. Some (make m.0, m.1)))) h.0
    ∙ rw (a.1, none_left a.0 a.2) refl

numbers-from : (ws : List (List ℕ)) (numbers : List ℕ) → Each IsField ws (map number numbers)
    → Each IsNumber ws numbers
numbers-from [] [] h = tt
numbers-from [] (n ∷ ns) h = absurd h
numbers-from (w ∷ ws) [] h = absurd h
numbers-from (w ∷ ws) (n ∷ ns) h = (h.0, numbers-from ws ns h.1)

pub takes-numbers : (ws : List (List ℕ)) (numbers : List ℕ) → Each IsField ws (map number numbers)
    → numbers_at ws ≡ Some (numbers, [])
takes-numbers ws numbers h =
    rw ((reads-each number_of IsNumber reads-number).from ws numbers (numbers-from ws numbers h)) refl

-- ---- from what is read to what is spelled

-- the one word and those after it
word_read : {A : Type 0} (f : List ℕ → Option A) (w : List ℕ) (ws : List (List ℕ)) (x : A × List (List ℕ))
    → (f w >>= (λ v. Some (v, ws))) ≡ Some x → (f w ≡ Some x.0) × (ws ≡ x.1)
word_read f w ws x h =
    let a = both_read (f w) _ x h in
    let pair = same_Some _ _ a.2 in
    (a.1 ∙ ap (λ p. Some p.0) pair, ap (λ p. p.1) pair)

pub gives-number : (ws : List (List ℕ)) (x : ℕ × List (List ℕ)) (fs : List Field) → number_at ws ≡ Some x
    → Each IsField x.1 fs → Each IsField ws (number x.0 ∷ fs)
unfolding number_at
gives-number [] x fs e h = absurd (none-some x e)
gives-number (w ∷ ws) x fs e h =
    let read = word_read number_of w ws x e in
    (reads-number.to w x.0 read.0, subst (λ l. Each IsField l fs) (sym read.1) h)

pub gives-address : (ws : List (List ℕ)) (x : GuestAddress × List (List ℕ)) (fs : List Field) → address_at ws ≡ Some x
    → Each IsField x.1 fs → Each IsField ws (number x.0.0 ∷ fs)
unfolding address_at
gives-address ws x fs e h =
    let n = both_read (number_at ws) _ x e in
    let pair = same_Some _ _ n.2 in
    let left = subst (λ l. Each IsField l fs) (sym (ap (λ p. p.1) pair)) h in
    subst (λ v. Each IsField ws (number v ∷ fs)) (ap (λ p. p.0.0) pair) (gives-number ws n.0 fs n.1 left)

pub gives-bytes : (ws : List (List ℕ)) (x : List ℕ × List (List ℕ)) (fs : List Field) → bytes_at ws ≡ Some x
    → Each IsField x.1 fs → Each IsField ws (bytes x.0 ∷ fs)
unfolding bytes_at
gives-bytes [] x fs e h = absurd (none-some x e)
gives-bytes (w ∷ ws) x fs e h =
    let read = word_read bytes_of w ws x e in
    (reads-bytes.to w x.0 read.0, subst (λ l. Each IsField l fs) (sym read.1) h)

pub gives-source : (ws : List (List ℕ)) (x : List SourceStep × List (List ℕ)) (fs : List Field)
    → source_at ws ≡ Some x → Each IsField x.1 fs → Each IsField ws (source x.0 ∷ fs)
unfolding source_at
gives-source [] x fs e h = absurd (none-some x e)
gives-source (w ∷ ws) x fs e h =
    let read = word_read source_of w ws x e in
    (reads-source.to w x.0 read.0, subst (λ l. Each IsField l fs) (sym read.1) h)

pub gives-sink : (ws : List (List ℕ)) (x : List SinkStep × List (List ℕ)) (fs : List Field)
    → sink_at ws ≡ Some x → Each IsField x.1 fs → Each IsField ws (sink x.0 ∷ fs)
unfolding sink_at
gives-sink [] x fs e h = absurd (none-some x e)
gives-sink (w ∷ ws) x fs e h =
    let read = word_read sink_of w ws x e in
    (reads-sink.to w x.0 read.0, subst (λ l. Each IsField l fs) (sym read.1) h)

permissions-to : (w : List ℕ) (access : Permissions) → permissions_of w ≡ Some access → w ≡ word_of_access access
permissions-to w access h0 =
    elim (chosen (bytes_eq w (codes "no")) _ _ access h0) [
      | inl here ↦ same_word w (codes "no") here.0 ∙ ap word_of_access (same_Some _ _ here.1)
      | inr h1 ↦
          elim (chosen (bytes_eq w (codes "r")) _ _ access h1.1) [
            | inl here ↦ same_word w (codes "r") here.0 ∙ ap word_of_access (same_Some _ _ here.1)
            | inr h2 ↦
                elim (chosen (bytes_eq w (codes "w")) _ _ access h2.1) [
                  | inl here ↦ same_word w (codes "w") here.0 ∙ ap word_of_access (same_Some _ _ here.1)
                  | inr h3 ↦
                      elim (chosen (bytes_eq w (codes "rw")) _ None access h3.1) [
                        | inl here ↦ same_word w (codes "rw") here.0 ∙ ap word_of_access (same_Some _ _ here.1)
                        | inr none ↦ absurd (none-some access none.1)
                      ]
                ]
          ]
    ]

pub gives-access : (ws : List (List ℕ)) (x : Permissions × List (List ℕ)) (fs : List Field)
    → permissions_at ws ≡ Some x → Each IsField x.1 fs → Each IsField ws (word (word_of_access x.0) ∷ fs)
unfolding permissions_at
gives-access [] x fs e h = absurd (none-some x e)
gives-access (w ∷ ws) x fs e h =
    let read = word_read permissions_of w ws x e in
    (permissions-to w x.0 read.0, subst (λ l. Each IsField l fs) (sym read.1) h)

switch-to : (w : List ℕ) (on : Bool) → switch_of w ≡ Some on → w ≡ word_of_switch on
switch-to w on h0 =
    elim (chosen (bytes_eq w (codes "on")) _ _ on h0) [
      | inl here ↦ same_word w (codes "on") here.0 ∙ ap word_of_switch (same_Some _ _ here.1)
      | inr h1 ↦
          elim (chosen (bytes_eq w (codes "off")) _ None on h1.1) [
            | inl here ↦ same_word w (codes "off") here.0 ∙ ap word_of_switch (same_Some _ _ here.1)
            | inr none ↦ absurd (none-some on none.1)
          ]
    ]

pub gives-switch : (ws : List (List ℕ)) (x : Bool × List (List ℕ)) (fs : List Field)
    → switch_at ws ≡ Some x → Each IsField x.1 fs → Each IsField ws (word (word_of_switch x.0) ∷ fs)
unfolding switch_at
gives-switch [] x fs e h = absurd (none-some x e)
gives-switch (w ∷ ws) x fs e h =
    let read = word_read switch_of w ws x e in
    (switch-to w x.0 read.0, subst (λ l. Each IsField l fs) (sym read.1) h)

width-to : (n : ℕ) (width : Width) → width_of n ≡ Some width → n ≡ bytes_of_width width
width-to n width h = grind (rules)

pub gives-width : (ws : List (List ℕ)) (x : Width × List (List ℕ)) (fs : List Field)
    → width_at ws ≡ Some x → Each IsField x.1 fs → Each IsField ws (number (bytes_of_width x.0) ∷ fs)
unfolding width_at
gives-width ws x fs e h =
    let n = both_read (number_at ws) _ x e in
    let width = both_read (width_of n.0.0) _ x n.2 in
    let pair = same_Some _ _ width.2 in
    let left = subst (λ l. Each IsField l fs) (sym (ap (λ p. p.1) pair)) h in
    let same = width-to n.0.0 width.0 width.1 ∙ ap (λ p. bytes_of_width p.0) pair in
    subst (λ v. Each IsField ws (number v ∷ fs)) same (gives-number ws n.0 fs n.1 left)

pub gives-range : (ws : List (List ℕ)) (x : BlockRange × List (List ℕ)) (fs : List Field)
    → block_range_at ws ≡ Some x → Each IsField x.1 fs
    → Each IsField ws (number x.0.block ∷ number x.0.offset ∷ number x.0.len ∷ fs)
unfolding block_range_at
gives-range ws x fs e h =
    let block = both_read (number_at ws) _ x e in
    let offset = both_read (number_at block.0.1) _ x block.2 in
    let len = both_read (number_at offset.0.1) _ x offset.2 in
    let pair = same_Some _ _ len.2 in
    let left = subst (λ l. Each IsField l fs) (sym (ap (λ p. p.1) pair)) h in
    let read = gives-number ws block.0 _ block.1
    (gives-number block.0.1 offset.0 _ offset.1 (gives-number offset.0.1 len.0 fs len.1 left)) in
    subst (λ (r : BlockRange). Each IsField ws (number r.block ∷ number r.offset ∷ number r.len ∷ fs))
    (ap (λ p. p.0) pair) read

bitmap-to : (w : List ℕ) (ws : List (List ℕ)) (make : ℕ → BitmapId) (n : ℕ) → bitmap_named w ≡ Some make
    → Each IsField ws (number n ∷ []) → Each IsField (w ∷ ws) (fields_of_bitmap (make n))
bitmap-to w ws make n h0 h =
    elim (chosen (bytes_eq w (codes "block")) _ _ make h0) [
      | inl here ↦
          subst (λ (f : ℕ → BitmapId). Each IsField (w ∷ ws) (fields_of_bitmap (f n))) (same_Some _ _ here.1)
          (same_word w (codes "block") here.0, h)
      | inr h1 ↦
          elim (chosen (bytes_eq w (codes "space")) _ None make h1.1) [
            | inl here ↦
                subst (λ (f : ℕ → BitmapId). Each IsField (w ∷ ws) (fields_of_bitmap (f n))) (same_Some _ _ here.1)
                (same_word w (codes "space") here.0, h)
            | inr none ↦ absurd (none-some make none.1)
          ]
    ]

pub gives-bitmap : (ws : List (List ℕ)) (x : BitmapId × List (List ℕ)) → bitmap_at ws ≡ Some x → x.1 ≡ []
    → Each IsField ws (fields_of_bitmap x.0)
unfolding bitmap_at
gives-bitmap [] x e left = absurd (none-some x e)
gives-bitmap (w ∷ ws) x e left =
    let make = both_read (bitmap_named w) _ x e in
    let n = both_read (number_at ws) _ x make.2 in
    let pair = same_Some _ _ n.2 in
    let none : n.0.1 ≡ [] = ap (λ p. p.1) pair ∙ left in
    subst (λ id. Each IsField (w ∷ ws) (fields_of_bitmap id)) (ap (λ p. p.0) pair)
    (bitmap-to w ws make.0 n.0.0 make.1 (gives-number ws n.0 [] n.1 (last_read none)))

numbers-to : (ws : List (List ℕ)) (numbers : List ℕ) → Each IsNumber ws numbers
    → Each IsField ws (map number numbers)
numbers-to [] [] h = tt
numbers-to [] (n ∷ ns) h = absurd h
numbers-to (w ∷ ws) [] h = absurd h
numbers-to (w ∷ ws) (n ∷ ns) h = (h.0, numbers-to ws ns h.1)

pub gives-numbers : (ws : List (List ℕ)) (x : List ℕ × List (List ℕ)) → numbers_at ws ≡ Some x
    → Each IsField ws (map number x.0)
gives-numbers ws x e =
    let read = both_read (each number_of ws) _ x e in
    let same = same_Some _ _ read.2 in
    subst (λ p. Each IsField ws (map number p.0)) same
    (numbers-to ws read.0 ((reads-each number_of IsNumber reads-number).to ws read.0 read.1))
