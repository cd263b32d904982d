-- The words of setup lines, and what lines mean.
use Rattle.std.proofs.Common.{◌≡◌, ◌≢◌, ◌∙◌, ℕ, ◌<◌, true, false, nat_eq, List, [], ◌∷◌, slice_get, Option, Some, None, Result, Ok, Err, refl, sym, ap, subst, inl, inr, codes, arith}
use Rattle.std.specs.Int.NonZero.{non_zero_usize_get}
use Rattle.std.specs.Str.{IsUtf8, bytes_eq}
use Rattle.std.proofs.lemmas.Bool.{ne_eqb, both_ways}
use Rattle.std.proofs.lemmas.Option.{same_Some, none-some}
use Rattle.vm_memory.specs.Words.{Each, parts_of}
use Rattle.vm_memory.specs.Lines.{IsField, Field, word, number, Means, Parses, Spells, is_blank, command_fields, setup_fields}
use Rattle.vm_memory.specs.Reading.{Read, number_at, page_size_at, limit_at, address_at, end_at, ◌>>=◌}
use Rattle.vm_memory.specs.LineReading.{IsShown, setup, command, shown, line_at, line_after, command_at, setup_at, sized_at, table_at, limit_field}
use Rattle.vm_memory.specs.declared.machine.command.Command as commands
use Rattle.vm_memory.specs.declared.machine.command.Command.TheVariants as make
use Rattle.vm_memory.specs.declared.machine.setup.Setup as setups
use Rattle.vm_memory.specs.declared.machine.setup.Setup.TheVariants.{Block, Space, Table, Region, Translator}
use Rattle.vm_memory.specs.declared.script.words.LineError.{LineError}
use Rattle.vm_memory.specs.declared.script.words.LineError.TheVariants as error
use Rattle.vm_memory.specs.declared.script.line.Line.{Line}
use Rattle.vm_memory.specs.declared.script.line.Line.TheVariants.{Nothing, Setup, Command}
use Rattle.vm_memory.proofs.SpellingLemmas.{both_read, chosen, second, same_word}
use Rattle.vm_memory.proofs.FieldLemmas.{Taken, takes-number, takes-address, gives-number, gives-address, none_left, last_read, same_read}
use Rattle.vm_memory.proofs.CommandLemmas.{command-from, command-to}

-- ---- lines that say nothing

pub blank-none : (line : List ℕ) → None ≡ slice_get line 0 → true ≡ is_blank line
blank-none [] h = refl
blank-none (b ∷ rest) h = cc h

pub blank-some : (line : List ℕ) (b : ℕ) → Some b ≡ slice_get line 0 → nat_eq b 35 ≡ is_blank line
blank-some [] b h = cc h
blank-some (a ∷ rest) b h = ap (λ x. nat_eq x 35) (same_Some b a h)

-- ---- sizes and limits

takes-page : (ws : List (List ℕ)) (n : ℕ) (fs : List Field) → 0 < n → Each IsField ws (number n ∷ fs)
    → Taken (page_size_at ws) n fs
unfolding page_size_at
takes-page ws n fs above h =
    let read = takes-number ws n fs h in
    (read.0, rw read.1 (second (nat_eq n 0) None (Some (n, read.0)) (ne_eqb n 0 (λ e. omega arith))), read.2)

gives-page : (ws : List (List ℕ)) (x : ℕ × List (List ℕ)) (fs : List Field) → page_size_at ws ≡ Some x
    → Each IsField x.1 fs → Each IsField ws (number x.0 ∷ fs)
unfolding page_size_at
gives-page ws x fs e h =
    let n = both_read (number_at ws) _ x e in
    elim (chosen (nat_eq n.0.0 0) None _ x n.2) [
      | inl zero ↦ absurd (none-some x zero.1)
      | inr above ↦
          let same = same_Some _ _ above.1 in
          gives-number ws x fs (n.1 ∙ ap Some same) h
    ]

gives-limit : (ws : List (List ℕ)) (x : Option ℕ × List (List ℕ)) → limit_at ws ≡ Some x → x.1 ≡ []
    → Each IsField ws (limit_field x.0)
unfolding limit_at
gives-limit [] x e left =
    let same = same_Some _ _ e in subst (λ (o : Option ℕ × List (List ℕ)). Each IsField [] (limit_field o.0)) same tt
gives-limit (w ∷ ws) x e left =
    let n = both_read (page_size_at (w ∷ ws)) _ x e in
    let same = same_Some _ _ n.2 in
    let none : n.0.1 ≡ [] = ap (λ p. p.1) same ∙ left in
    subst (λ (o : Option ℕ × List (List ℕ)). Each IsField (w ∷ ws) (limit_field o.0)) same
    (gives-page (w ∷ ws) n.0 [] n.1 (last_read none))

-- ---- setup lines

from-sized : (first : List ℕ) (ws : List (List ℕ)) (size page : ℕ) → 0 < page
    → Each IsField ws (number size ∷ number page ∷ [])
    → sized_at first ws ≡ Some (Some (word first ∷ number size ∷ number page ∷ []), [])
from-sized first ws size page above h =
    let p = takes-number ws size _ h in
    let q = takes-page p.0 page _ above p.2 in
    rw (p.1, q.1, none_left q.0 q.2) refl

from-table : (ws : List (List ℕ)) (limit : ℕ) → 0 < limit → Each IsField ws (number limit ∷ [])
    → table_at ws ≡ Some (Some (word (codes "table") ∷ number limit ∷ []), [])
unfolding limit_at
from-table [] limit above h = absurd h
from-table (w ∷ ws) limit above h =
    let p = takes-page (w ∷ ws) limit [] above h in rw (p.1, none_left p.0 p.2) refl

pub setup-from : (first : List ℕ) (ws : List (List ℕ)) (s : setups.Setup) → Each IsField (first ∷ ws) (setup_fields s)
    → setup_at first ws ≡ Some (Some (setup_fields s), [])
unfolding setup_at limit_at
setup-from first ws (Block size page) h =
    ap (λ f. setup_at f ws) h.0 ∙ from-sized (codes "block") ws size (non_zero_usize_get page) page.ok h.1
setup-from first ws (Space size page) h =
    ap (λ f. setup_at f ws) h.0 ∙ from-sized (codes "space") ws size (non_zero_usize_get page) page.ok h.1
setup-from first ws (Table None) h =
    ap (λ f. setup_at f ws) h.0
    ∙ ap (λ l. limit_at l >>= (λ limit. Some (Some (word (codes "table") ∷ limit_field limit.0), limit.1)))
    (none_left ws h.1)
setup-from first ws (Table (Some limit)) h =
    ap (λ f. setup_at f ws) h.0 ∙ from-table ws (non_zero_usize_get limit) limit.ok h.1
setup-from first ws (Region block addr) h =
    let p = takes-number ws block.0 _ h.1 in
    let q = takes-address p.0 addr _ p.2 in
    ap (λ f. setup_at f ws) h.0 ∙ rw (p.1, q.1, none_left q.0 q.2) refl
setup-from first ws (Translator table) h =
    let p = takes-number ws table.0 _ h.1 in ap (λ f. setup_at f ws) h.0 ∙ rw (p.1, none_left p.0 p.2) refl

to-sized : (first given : List ℕ) (ws : List (List ℕ)) (fs : List Field) → given ≡ first
    → sized_at first ws ≡ Some (Some fs, []) → Each IsField (given ∷ ws) fs
to-sized first given ws fs is h =
    let p = both_read (number_at ws) _ (Some fs, []) h in
    let q = both_read (page_size_at p.0.1) _ (Some fs, []) p.2 in
    let e = same_read q.2 in
    subst (λ l. Each IsField (given ∷ ws) l) (same_Some _ _ e.0)
    (is, gives-number ws p.0 _ p.1 (gives-page p.0.1 q.0 _ q.1 (last_read e.1)))

pub setup-to : (first : List ℕ) (ws : List (List ℕ)) (fs : List Field) → setup_at first ws ≡ Some (Some fs, [])
    → Each IsField (first ∷ ws) fs
unfolding setup_at
setup-to first ws fs h0 =
    elim (chosen (bytes_eq first (codes "block")) _ _ (Some fs, []) h0) [
      | inl here ↦ to-sized (codes "block") first ws fs (same_word first (codes "block") here.0) here.1
      | inr h1 ↦
          elim (chosen (bytes_eq first (codes "space")) _ _ (Some fs, []) h1.1) [
            | inl here ↦ to-sized (codes "space") first ws fs (same_word first (codes "space") here.0) here.1
            | inr h2 ↦
                elim (chosen (bytes_eq first (codes "table")) _ _ (Some fs, []) h2.1) [
                  | inl here ↦
                      let p = both_read (limit_at ws) _ (Some fs, []) here.1 in
                      let e = same_read p.2 in
                      subst (λ l. Each IsField (first ∷ ws) l) (same_Some _ _ e.0)
                      (same_word first (codes "table") here.0, gives-limit ws p.0 p.1 e.1)
                  | inr h3 ↦
                      elim (chosen (bytes_eq first (codes "region")) _ _ (Some fs, []) h3.1) [
                        | inl here ↦
                            let p = both_read (number_at ws) _ (Some fs, []) here.1 in
                            let q = both_read (address_at p.0.1) _ (Some fs, []) p.2 in
                            let e = same_read q.2 in
                            subst (λ l. Each IsField (first ∷ ws) l) (same_Some _ _ e.0) (
                              same_word first (codes "region") here.0,
                              gives-number ws p.0 _ p.1 (gives-address p.0.1 q.0 _ q.1 (last_read e.1)),
                            )
                        | inr h4 ↦
                            elim (chosen (bytes_eq first (codes "translator")) _ _ (Some fs, []) h4.1) [
                              | inl here ↦
                                  let p = both_read (number_at ws) _ (Some fs, []) here.1 in
                                  let e = same_read p.2 in
                                  subst (λ l. Each IsField (first ∷ ws) l) (same_Some _ _ e.0) (
                                    same_word first (codes "translator") here.0,
                                    gives-number ws p.0 _ p.1 (last_read e.1),
                                  )
                              | inr none ↦ cc (same_read none.1).0
                            ]
                      ]
                ]
          ]
    ]

-- what begins a setup line is read as one
some_setup : {B : Type 0} (o : Read B) (f : B × List (List ℕ) → Read (Option (List Field))) (left : List (List ℕ))
    → ((x : B × List (List ℕ)) → f x ≡ Some (None, left) → ⊥) → (o >>= f) ≡ Some (None, left) → ⊥
some_setup None f left h e = none-some _ e
some_setup (Some x) f left h e = h x e

no_sized : (first : List ℕ) (ws left : List (List ℕ)) → sized_at first ws ≡ Some (None, left) → ⊥
no_sized first ws left =
    some_setup (number_at ws) _ left (λ size. some_setup (page_size_at size.1) _ left (λ page e. cc (same_read e).0))

-- where no setup line begins, nothing was read
pub setup-none : (first : List ℕ) (ws left : List (List ℕ)) → setup_at first ws ≡ Some (None, left) → ws ≡ left
unfolding setup_at
setup-none first ws left h0 =
    elim (chosen (bytes_eq first (codes "block")) _ _ (None, left) h0) [
      | inl here ↦ absurd (no_sized (codes "block") ws left here.1)
      | inr h1 ↦
          elim (chosen (bytes_eq first (codes "space")) _ _ (None, left) h1.1) [
            | inl here ↦ absurd (no_sized (codes "space") ws left here.1)
            | inr h2 ↦
                elim (chosen (bytes_eq first (codes "table")) _ _ (None, left) h2.1) [
                  | inl here ↦ absurd (some_setup (limit_at ws) _ left (λ limit e. cc (same_read e).0) here.1)
                  | inr h3 ↦
                      elim (chosen (bytes_eq first (codes "region")) _ _ (None, left) h3.1) [
                        | inl here ↦
                            absurd (some_setup (number_at ws) _ left
                            (λ block. some_setup (address_at block.1) _ left (λ addr e. cc (same_read e).0)) here.1)
                        | inr h4 ↦
                            elim (chosen (bytes_eq first (codes "translator")) _ _ (None, left) h4.1) [
                              | inl here ↦
                                  absurd (some_setup (number_at ws) _ left (λ table e. cc (same_read e).0) here.1)
                              | inr none ↦ (same_read none.1).1
                            ]
                      ]
                ]
          ]
    ]

-- the words of a command begin no setup line
pub command-no_setup : (first : List ℕ) (ws : List (List ℕ)) (c : commands.Command)
    → Each IsField (first ∷ ws) (command_fields c) → setup_at first ws ≡ Some (None, ws)
unfolding setup_at
command-no_setup first ws (make.FromRegions numbers) h = ap (λ f. setup_at f ws) h.0
command-no_setup first ws (make.Insert layout region) h = ap (λ f. setup_at f ws) h.0
command-no_setup first ws (make.Remove layout base size) h = ap (λ f. setup_at f ws) h.0
command-no_setup first ws (make.Plain layout) h = ap (λ f. setup_at f ws) h.0
command-no_setup first ws (make.NewMemory layout translator space on) h = ap (λ f. setup_at f ws) h.0
command-no_setup first ws (make.ReplaceBackend memory layout) h = ap (λ f. setup_at f ws) h.0
command-no_setup first ws (make.Enable memory on) h = ap (λ f. setup_at f ws) h.0
command-no_setup first ws (make.Read memory addr count) h = ap (λ f. setup_at f ws) h.0
command-no_setup first ws (make.Write memory addr bs) h = ap (λ f. setup_at f ws) h.0
command-no_setup first ws (make.ReadSlice memory addr count) h = ap (λ f. setup_at f ws) h.0
command-no_setup first ws (make.WriteSlice memory addr bs) h = ap (λ f. setup_at f ws) h.0
command-no_setup first ws (make.Store memory width addr value) h = ap (λ f. setup_at f ws) h.0
command-no_setup first ws (make.Load memory width addr) h = ap (λ f. setup_at f ws) h.0
command-no_setup first ws (make.ReadFrom memory addr count steps) h = ap (λ f. setup_at f ws) h.0
command-no_setup first ws (make.ReadExactFrom memory addr count steps) h = ap (λ f. setup_at f ws) h.0
command-no_setup first ws (make.WriteTo memory addr count steps) h = ap (λ f. setup_at f ws) h.0
command-no_setup first ws (make.WriteAllTo memory addr count steps) h = ap (λ f. setup_at f ws) h.0
command-no_setup first ws (make.CheckRange memory addr count access) h = ap (λ f. setup_at f ws) h.0
command-no_setup first ws (make.Copy from to) h = ap (λ f. setup_at f ws) h.0
command-no_setup first ws (make.Set table iova to length access) h = ap (λ f. setup_at f ws) h.0
command-no_setup first ws (make.Invalidate table iova length) h = ap (λ f. setup_at f ws) h.0
command-no_setup first ws (make.InvalidateAll table) h = ap (λ f. setup_at f ws) h.0
command-no_setup first ws (make.Lookup table iova length access) h = ap (λ f. setup_at f ws) h.0
command-no_setup first ws (make.Dirty id) h = ap (λ f. setup_at f ws) h.0
command-no_setup first ws (make.Harvest id) h = ap (λ f. setup_at f ws) h.0

-- ---- lines

pub no_words : (fs : List Field) → Each IsField [] fs → fs ≢ [] → ⊥
no_words [] h some = some refl
no_words (f ∷ fs) h some = h

pub setup-some : (s : setups.Setup) → setup_fields s ≢ []
setup-some (Block size page) e = cc e
setup-some (Space size page) e = cc e
setup-some (Table None) e = cc e
setup-some (Table (Some limit)) e = cc e
setup-some (Region block addr) e = cc e
setup-some (Translator table) e = cc e

pub command-some : (c : commands.Command) → command_fields c ≢ []
command-some (make.FromRegions numbers) e = cc e
command-some (make.Insert layout region) e = cc e
command-some (make.Remove layout base size) e = cc e
command-some (make.Plain layout) e = cc e
command-some (make.NewMemory layout translator space on) e = cc e
command-some (make.ReplaceBackend memory layout) e = cc e
command-some (make.Enable memory on) e = cc e
command-some (make.Read memory addr count) e = cc e
command-some (make.Write memory addr bs) e = cc e
command-some (make.ReadSlice memory addr count) e = cc e
command-some (make.WriteSlice memory addr bs) e = cc e
command-some (make.Store memory width addr value) e = cc e
command-some (make.Load memory width addr) e = cc e
command-some (make.ReadFrom memory addr count steps) e = cc e
command-some (make.ReadExactFrom memory addr count steps) e = cc e
command-some (make.WriteTo memory addr count steps) e = cc e
command-some (make.WriteAllTo memory addr count steps) e = cc e
command-some (make.CheckRange memory addr count access) e = cc e
command-some (make.Copy from to) e = cc e
command-some (make.Set table iova to length access) e = cc e
command-some (make.Invalidate table iova length) e = cc e
command-some (make.InvalidateAll table) e = cc e
command-some (make.Lookup table iova length access) e = cc e
command-some (make.Dirty id) e = cc e
command-some (make.Harvest id) e = cc e

-- the words of a line, which are the first and others, and what is read of them
pub record HasWords (line first : List ℕ) (ws : List (List ℕ)) : Type 0 where
  pub blank : is_blank line ≡ false
  pub words : parts_of 32 line ≡ first ∷ ws

split : (line first : List ℕ) (ws : List (List ℕ)) (fs : List Field) → HasWords line first ws → Spells line fs
    → Each IsField (first ∷ ws) fs
split line first ws fs h = subst (λ l. Each IsField l fs) h.words

-- a line is bad where neither a setup line nor a command can be read of its words
bad_line : (line first : List ℕ) (ws : List (List ℕ)) → HasWords line first ws
    → ((fs : List Field) → setup_at first ws ≡ Some (Some fs, []) → ⊥)
    → ((c : commands.Command) → setup_at first ws ≡ Some (None, ws) → command_at first ws ≡ Some (c, []) → ⊥)
    → (l : Line) → ¬ (Means line l)
bad_line line first ws h no_setup no_command Nothing m = both_ways _ h.blank m
bad_line line first ws h no_setup no_command (Setup s) m =
    no_setup _ (setup-from first ws s (split line first ws _ h m.1))
bad_line line first ws h no_setup no_command (Command c) m =
    let words = split line first ws _ h m.1 in
    no_command c (command-no_setup first ws c words) (command-from first ws c words)

no_left : (ws : List (List ℕ)) (x : Unit {0} × List (List ℕ)) → end_at ws ≡ Some x → ws ≡ []
no_left [] x h = refl
no_left (w ∷ ws) x h = absurd (none-some x h)

setup_line : (line first : List ℕ) (ws left : List (List ℕ)) (s : setups.Setup) → HasWords line first ws
    → IsUtf8 line → setup_at first ws ≡ Some (Some (setup_fields s), left) → left ≡ [] → Means line (Setup s)
setup_line line first ws left s h text read end = (
  text,
  subst (λ l. Each IsField l (setup_fields s)) (sym h.words)
      (setup-to first ws _ (read ∙ ap (λ l. Some (Some (setup_fields s), l)) end)),
)

command_line : (line first : List ℕ) (ws behind left : List (List ℕ)) (c : commands.Command)
    → HasWords line first ws → IsUtf8 line → setup_at first ws ≡ Some (None, behind)
    → command_at first behind ≡ Some (c, left) → left ≡ [] → Means line (Command c)
command_line line first ws behind left c h text none read end =
    let same = setup-none first ws behind none in
    let whole : command_at first ws ≡ Some (c, []) = ap (command_at first) same ∙ read ∙ ap (λ l. Some (c, l)) end in
    (text, subst (λ l. Each IsField l (command_fields c)) (sym h.words) (command-to first ws c whole))

-- the line that was read of the words after the first
behind-to : (line first : List ℕ) (ws : List (List ℕ)) (made : Option (List Field)) (left : List (List ℕ)) (l : Line)
    → HasWords line first ws → IsUtf8 line → setup_at first ws ≡ Some (made, left)
    → line_after first made left ≡ Some (shown l) → Means line l
behind-to line first ws (Some fields) left Nothing h text read e =
    let end = both_read (end_at left) _ _ e in cc (same_Some _ _ end.2)
behind-to line first ws (Some fields) left (Setup s) h text read e =
    let end = both_read (end_at left) _ _ e in
    let same : fields ≡ setup_fields s = cc (same_Some _ _ end.2) in
    setup_line line first ws left s h text (read ∙ ap (λ f. Some (Some f, left)) same) (no_left left end.0 end.1)
behind-to line first ws (Some fields) left (Command c) h text read e =
    let end = both_read (end_at left) _ _ e in cc (same_Some _ _ end.2)
behind-to line first ws None left Nothing h text read e =
    let p = both_read (command_at first left) _ _ e in
    let end = both_read (end_at p.0.1) _ _ p.2 in
    cc (same_Some _ _ end.2)
behind-to line first ws None left (Setup s) h text read e =
    let p = both_read (command_at first left) _ _ e in
    let end = both_read (end_at p.0.1) _ _ p.2 in
    cc (same_Some _ _ end.2)
behind-to line first ws None left (Command c) h text read e =
    let p = both_read (command_at first left) _ _ e in
    let end = both_read (end_at p.0.1) _ _ p.2 in
    let same : p.0.0 ≡ c = cc (same_Some _ _ end.2) in
    command_line line first ws left p.0.1 c h text read (p.1 ∙ ap (λ d. Some (d, p.0.1)) same)
    (no_left p.0.1 end.0 end.1)

-- what was read of a line is what it means
pub line-to : (line : List ℕ) (words : List (List ℕ)) (l : Line) → is_blank line ≡ false → parts_of 32 line ≡ words
    → IsUtf8 line → line_at words ≡ Some (shown l) → Means line l
unfolding line_at
line-to line [] l blank is text e = absurd (none-some _ e)
line-to line (first ∷ ws) l blank is text e =
    let made = both_read (setup_at first ws) _ _ e in
    behind-to line first ws made.0.0 made.0.1 l (record { blank = blank; words = is }) text made.1 made.2

-- where nothing was read of a line, it means nothing
pub line-none : (line : List ℕ) (words : List (List ℕ)) → is_blank line ≡ false → parts_of 32 line ≡ words
    → line_at words ≡ None → (l : Line) → ¬ (Means line l)
unfolding line_at
line-none line [] blank is e Nothing m = both_ways _ blank m
line-none line [] blank is e (Setup s) m =
    no_words (setup_fields s) (subst (λ l. Each IsField l (setup_fields s)) is m.1) (setup-some s)
line-none line [] blank is e (Command c) m =
    no_words (command_fields c) (subst (λ l. Each IsField l (command_fields c)) is m.1) (command-some c)
line-none line (first ∷ ws) blank is e l m =
    bad_line line first ws (record { blank = blank; words = is })
    (λ fs read. none-some (setup fs) (sym e ∙ rw read refl))
    (λ c none read. none-some (command c) (sym e ∙ rw (none, read) refl)) l m

pub parses-shown : (line : List ℕ) (r : Result Line LineError) → is_blank line ≡ false → IsUtf8 line
    → IsShown r (line_at (parts_of 32 line)) → Parses line r
parses-shown line (Ok l) blank text h = line-to line _ l blank refl text h
parses-shown line (Err error.Bad) blank text h = line-none line _ blank refl h
parses-shown line (Err error.Memory) blank text h = tt

pub parses-no_text : (line : List ℕ) → is_blank line ≡ false → ¬ (IsUtf8 line) → (l : Line) → ¬ (Means line l)
parses-no_text line blank text Nothing m = both_ways _ blank m
parses-no_text line blank text (Setup s) m = text m.0
parses-no_text line blank text (Command c) m = text m.0
