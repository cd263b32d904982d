-- Frames that are taken one after the other.
use Rattle.std.proofs.Common.{◌≡◌, ℕ, ◌+◌, ◌-◌, ◌*◌, ◌<◌, ◌≤◌, ◌⊎◌, min, inl, inr, List, [], ◌∷◌, ◌++◌, length, take, Option, Some, None, Result, Ok, Err, OnErr, refl, sym, ap, subst, ◌∙◌, add-zero, arith}
use Rattle.std.proofs.KnownBytes.{Appends-nil, Appends-trans}
use Rattle.std.proofs.Math.Seq.{take-append-add, take-length}
use Rattle.std.specs.Io.KnownBytes.{Appends, Consumes}
use Rattle.std.specs.List.{AllByRecursion}
use Rattle.std.specs.Prelude.{flat_map, slice_get}
use Rattle.std.proofs.lemmas.List.{append-nil, flat_map_more}
use Rattle.std.proofs.lemmas.Option.{slice_get_within}
use Rattle.vm_memory_guest.specs.Host.{Host, block_at}
use Rattle.vm_memory_guest.specs.Window.{MarksOne}
use Rattle.live_migration.specs.Frame.{Message, Pages, ZeroPage, RoundEnd, Section, Done, Go, IsMessage, spelling}
use Rattle.live_migration.specs.Image.{arrived, received}
use Rattle.live_migration.specs.Placing.{IsInside, MarksChanged, MarksPages, TellsNothing}
use Rattle.live_migration.specs.Reading.{◌>>=◌}
use Rattle.live_migration.specs.Receiving.{BreaksReceiving, KeepsBlocks, MarksAllPages, MayTellNothing, Receives, ReceivesAll, TakesFrame, section_in, sections_told}
use Rattle.live_migration.specs.Replies.{replies_to, reply_after, reply_to}
use Rattle.live_migration.specs.Stages.{in_round, stage_after, stage_after_all}
use Rattle.live_migration.specs.declared.header.BlockEntry.{BlockEntry}
use Rattle.live_migration.specs.declared.receiver.Stage.{Stage}
use Rattle.live_migration.specs.declared.receiver.Stage.TheVariants as stage
use Rattle.live_migration.specs.declared.receiver.progress.Progress.{Progress}
use Rattle.live_migration.specs.declared.refusal.Refusal.{Refusal}
use Rattle.live_migration.proofs.CostLemmas.{sections_cost}
use Rattle.live_migration.proofs.FollowingLemmas.{slice_get-set_other}
use Rattle.live_migration.proofs.ImageLemmas.{arrived-append}
use Rattle.live_migration.proofs.StreamLemmas.{consumes_consumes}

consumes_none : (a : Option (List ℕ)) → Consumes a a []
consumes_none None = tt
consumes_none (Some xs) = refl

-- a mark of a block of these leaves the bitmaps of others
marked_elsewhere : {B : Type 0} (marks : B → ℕ → ℕ → B → Type 0) (base : ℕ) (entries : List BlockEntry) (block : ℕ)
    (entry : BlockEntry) (at len : ℕ) (old new : List B) → slice_get entries block ≡ Some entry
    → MarksOne marks (base + block) at len old new → (c : ℕ) → (c < base) ⊎ (base + length entries ≤ c)
    → slice_get new c ≡ slice_get old c
marked_elsewhere {B} marks base entries block entry at len old new there m c outside =
    ap (λ (bs : List B). slice_get bs c) m.is ∙ slice_get-set_other old (base + block) c m.after (λ here. elim outside [
      | inl before ↦ omega arith
      | inr behind ↦ omega (arith, slice_get_within entries block entry there)
    ])

-- nothing came yet
pub none_received : {B : Type 0} (marks : B → ℕ → ℕ → B → Type 0) (a : Option (List ℕ)) (base : ℕ)
    (entries : List BlockEntry) (host : Host B) → ReceivesAll marks a a base entries host host
unfolding arrived
none_received marks a base entries host = record {
  messages = [];
  fit = tt;
  inside = tt;
  consumed = consumes_none a;
  images = λ j e there. refl;
  others = λ c outside. refl;
  shape = refl;
  spaces = refl;
  tables = refl;
  marked = refl;
  bitmaps = λ c outside. refl;
}

-- ---- marks

-- a message whose pages are of these blocks leaves the bitmaps of others
other_bitmaps : {B : Type 0} (marks : B → ℕ → ℕ → B → Type 0) (base : ℕ) (entries : List BlockEntry) (m : Message)
    (old new : List B) → MarksPages marks base entries m old new → (c : ℕ)
    → (c < base) ⊎ (base + length entries ≤ c) → slice_get new c ≡ slice_get old c
other_bitmaps marks base entries (Pages block first bytes) old new m c outside =
    marked_elsewhere marks base entries block m.0 (first * m.0.page_size) (length bytes) old new m.1 m.2 c outside
other_bitmaps marks base entries (ZeroPage block page) old new m c outside =
    marked_elsewhere marks base entries block m.0 (page * m.0.page_size)
    (min m.0.page_size (m.0.len - page * m.0.page_size)) old new m.1 m.2 c outside
other_bitmaps marks base entries (RoundEnd round digest) old new m c outside = absurd m
other_bitmaps marks base entries (Section name bytes) old new m c outside = absurd m
other_bitmaps marks base entries Done old new m c outside = absurd m
other_bitmaps marks base entries Go old new m c outside = absurd m

-- what a message changed is marked, or it may tell nothing
silent_or_marked : {B : Type 0} (marks : B → ℕ → ℕ → B → Type 0) (base : ℕ) (entries : List BlockEntry) (m : Message)
    (old new : Host B) → (TellsNothing base entries m old → new ≡ old) → MarksChanged marks base entries m old new
    → (MayTellNothing m × (new.bitmaps ≡ old.bitmaps)) ⊎ MarksPages marks base entries m old.bitmaps new.bitmaps
silent_or_marked {B} marks base entries m old new same (inl none) =
    inl (may m none, ap (λ (h : Host B). h.bitmaps) (same none))
  where
    may : (m : Message) → TellsNothing base entries m old → MayTellNothing m
    may (Pages block first bytes) none = absurd none
    may (ZeroPage block page) none = tt
    may (RoundEnd round digest) none = tt
    may (Section name bytes) none = tt
    may Done none = tt
    may Go none = tt
silent_or_marked marks base entries m old new same (inr marked) = inr marked

-- and so of one message more
marks_more : {B : Type 0} (marks : B → ℕ → ℕ → B → Type 0) (base : ℕ) (entries : List BlockEntry) (ms : List Message)
    (m : Message) (old mid new : List B) → MarksAllPages marks base entries ms old mid
    → (MayTellNothing m × (new ≡ mid)) ⊎ MarksPages marks base entries m mid new
    → MarksAllPages marks base entries (ms ++ m ∷ []) old new
marks_more {B} marks base entries [] m old mid new all more =
    (new, subst (λ (bs : List B). (MayTellNothing m × (new ≡ bs)) ⊎ MarksPages marks base entries m bs new) all more, refl)
marks_more marks base entries (x ∷ xs) m old mid new all more =
    (all.0, all.1, marks_more marks base entries xs m all.0 mid new all.2 more)

all_more : (P : Message → Type 0) (ms : List Message) (m : Message) → AllByRecursion P ms → P m
    → AllByRecursion P (ms ++ m ∷ [])
all_more P [] m all is = (is, tt)
all_more P (x ∷ xs) m all is = (all.0, all_more P xs m all.1 is)

-- one frame more
pub received_more : {B : Type 0} (marks : B → ℕ → ℕ → B → Type 0) (a b c : Option (List ℕ)) (base : ℕ)
    (entries : List BlockEntry) (old new : Progress) (host mid next : Host B) → old.base ≡ base
    → old.entries.items ≡ entries → ReceivesAll marks a b base entries host mid → TakesFrame marks b c old new mid next
    → ReceivesAll marks a c base entries host next
unfolding arrived
received_more {B} marks a b c base entries old new host mid next at are r t =
    let one : (MayTellNothing t.message × (next.bitmaps ≡ mid.bitmaps))
    ⊎ MarksPages marks base entries t.message mid.bitmaps next.bitmaps =
    subst (λ (es : List BlockEntry). (MayTellNothing t.message × (next.bitmaps ≡ mid.bitmaps))
    ⊎ MarksPages marks base es t.message mid.bitmaps next.bitmaps) are
    (subst (λ (k : ℕ). (MayTellNothing t.message × (next.bitmaps ≡ mid.bitmaps))
    ⊎ MarksPages marks k old.entries.items t.message mid.bitmaps next.bitmaps) at
    (silent_or_marked marks old.base old.entries.items t.message mid next t.applied.same t.marked)) in
    let ms = r.messages in
    let m = t.message in
    record {
      messages = ms ++ m ∷ [];
      fit = all_more IsMessage ms m r.fit t.fits;
      inside = all_more (IsInside entries) ms m r.inside
          (subst (λ (es : List BlockEntry). IsInside es m) are t.inside);
      consumed = subst (λ (bytes : List ℕ). Consumes a c bytes) (flat_map_more spelling [] ms m)
          (consumes_consumes a b c (flat_map spelling ms) (spelling m) r.consumed t.consumed);
      images = λ j e there.
          let seen : slice_get old.entries.items j ≡ Some e =
          ap (λ (es : List BlockEntry). slice_get es j) are ∙ there in
          ap (λ (k : ℕ). block_at next.blocks (k + j)) (sym at) ∙ t.applied.images j e seen
          ∙ ap (λ (k : ℕ). received e.page_size j m (block_at mid.blocks (k + j))) at
          ∙ ap (received e.page_size j m) (r.images j e there)
          ∙ sym (arrived-append e.page_size j ms (m ∷ []) (block_at host.blocks (base + j)));
      others = λ c' outside.
          t.applied.others c' (subst (λ (k : ℕ). (c' < k) ⊎ (k + length old.entries.items ≤ c')) (sym at)
          (subst (λ (es : List BlockEntry). (c' < base) ⊎ (base + length es ≤ c')) (sym are) outside))
          ∙ r.others c' outside;
      shape = t.applied.shape ∙ r.shape;
      spaces = t.applied.spaces ∙ r.spaces;
      tables = t.applied.tables ∙ r.tables;
      marked = marks_more marks base entries ms m host.bitmaps mid.bitmaps next.bitmaps r.marked one;
      bitmaps = λ c' outside. elim one [
        | inl silent ↦ ap (λ (bs : List B). slice_get bs c') silent.1 ∙ r.bitmaps c' outside
        | inr marked ↦
            other_bitmaps marks base entries m mid.bitmaps next.bitmaps marked c' outside ∙ r.bitmaps c' outside
      ];
    }

-- ---- what stays of a receiver, the sections that came, and the replies

-- the stage after one message more
stage_more : (s t u : Stage) (ms : List Message) (m : Message) → stage_after_all s ms ≡ Ok t → stage_after t m ≡ Ok u
    → stage_after_all s (ms ++ m ∷ []) ≡ Ok u
unfolding stage_after_all
stage_more s t u [] m before now =
    let same : s ≡ t = cc in
    ap (λ (r : Result Stage Refusal). r >>= (λ v. Ok v)) (ap (λ (v : Stage). stage_after v m) same ∙ now)
stage_more s t u (x ∷ xs) m before now = go (λ v h. stage_more v t u xs m h now) (stage_after s x) before
  where
    go : ((v : Stage) → stage_after_all v xs ≡ Ok t → stage_after_all v (xs ++ m ∷ []) ≡ Ok u) → (r : Result Stage Refusal)
        → (r >>= (λ v. stage_after_all v xs)) ≡ Ok t → (r >>= (λ v. stage_after_all v (xs ++ m ∷ []))) ≡ Ok u
    go more (Ok v) h = more v h
    go more (Err e) h = absurd (cc)

-- the stage that is told
told : (t u : Stage) → t ≡ u → reply_after t ≡ reply_after u
told t u same = ap reply_after same

-- a message calls for the reply of the stage that it leads to
in_round_is : (t : Stage) (m : Message) → in_round m ≡ Ok t → reply_to m ≡ reply_after t
in_round_is t (Pages block first bytes) h = told stage.Round t (cc)
in_round_is t (ZeroPage block page) h = told stage.Round t (cc)
in_round_is t (RoundEnd round digest) h = told stage.RoundEnded t (cc)
in_round_is t (Section name bytes) h = told stage.Round t (cc)
in_round_is t Done h = absurd (cc)
in_round_is t Go h = absurd (cc)

reply_is : (s t : Stage) (m : Message) → stage_after s m ≡ Ok t → reply_to m ≡ reply_after t
reply_is stage.Round t m h = in_round_is t m h
reply_is stage.RoundEnded t (Pages block first bytes) h = in_round_is t (Pages block first bytes) h
reply_is stage.RoundEnded t (ZeroPage block page) h = in_round_is t (ZeroPage block page) h
reply_is stage.RoundEnded t (RoundEnd round digest) h = in_round_is t (RoundEnd round digest) h
reply_is stage.RoundEnded t (Section name bytes) h = in_round_is t (Section name bytes) h
reply_is stage.RoundEnded t Done h = told stage.Done t (cc)
reply_is stage.RoundEnded t Go h = in_round_is t Go h
reply_is stage.Done t (Pages block first bytes) h = absurd (cc)
reply_is stage.Done t (ZeroPage block page) h = absurd (cc)
reply_is stage.Done t (RoundEnd round digest) h = absurd (cc)
reply_is stage.Done t (Section name bytes) h = absurd (cc)
reply_is stage.Done t Done h = absurd (cc)
reply_is stage.Done t Go h = told stage.Gone t (cc)
reply_is stage.Gone t m h = absurd (cc)
reply_is stage.Failed t m h = absurd (cc)

-- what holds where a call is refused
pub if_refused : {T E P : Type 0} (r : Result T E) → P → OnErr r P
if_refused (Ok x) p = tt
if_refused (Err e) p = p

pub none_kept : {B : Type 0} (marks : B → ℕ → ℕ → B → Type 0) (a s : Option (List ℕ)) (p : Progress) (host : Host B)
    → Receives marks a p host host s s a p
unfolding none_received stage_after_all
none_kept marks a s p host = (
  none_received marks a p.base p.entries.items host,
  record {
    base = refl;
    entries = refl;
    stage = refl;
    sections = sym (append-nil (sections_told p));
    left = add-zero p.left;
  },
  Appends-nil s,
)

-- no frame more
pub breaks_here : {B : Type 0} (marks : B → ℕ → ℕ → B → Type 0) (a b s t : Option (List ℕ)) (first old : Progress)
    (host next : Host B) → Receives marks a first host next s t b old → BreaksReceiving marks a first host next s t
breaks_here marks a b s t first old host next k =
    let replies = replies_to k.0.messages in
    record {
      after = b;
      reached = old;
      came = k.0;
      kept = k.1;
      count = length replies;
      replied = subst (λ (xs : List ℕ). Appends s t xs) (sym (take-length replies)) k.2;
    }

module _ {B : Type 0} (marks : B → ℕ → ℕ → B → Type 0) (a b c s t u : Option (List ℕ)) (first old new : Progress)
    (host mid next : Host B) (k : Receives marks a first host mid s t b old)
    (f : TakesFrame marks b c old new mid next) where
  came : ReceivesAll marks a c first.base first.entries.items host next
  came = received_more marks a b c first.base first.entries.items old new host mid next k.1.base k.1.entries k.0 f

  kept : KeepsBlocks came.messages first new
  unfolding received_more came
  kept = let ms = k.0.messages in let was = k.1 in
      record {
        base = f.base ∙ was.base;
        entries = f.entries ∙ was.entries;
        stage = stage_more first.stage old.stage new.stage ms f.message was.stage f.stage;
        sections = f.sections ∙ ap (λ (xs : List (List ℕ × List ℕ)). xs ++ section_in f.message) was.sections
            ∙ flat_map_more section_in (sections_told first) ms f.message;
        left =
            let more = sections_cost ms f.message in
            let before = was.left in
            let now = f.left in
            omega arith;
      }

  replies : replies_to k.0.messages ++ reply_after new.stage ≡ replies_to came.messages
  unfolding received_more came
  replies = ap (λ (xs : List ℕ). replies_to k.0.messages ++ xs) (sym (reply_is old.stage new.stage f.message f.stage))
      ∙ flat_map_more reply_to [] k.0.messages f.message

  -- one frame more, with its reply
  pub kept_more : Appends t u (reply_after new.stage) → Receives marks a first host next s u c new
  kept_more now = (
    came,
    kept,
    subst (λ (xs : List ℕ). Appends s u xs) replies
        (Appends-trans s t u (replies_to k.0.messages) (reply_after new.stage) k.2 now),
  )

  -- one frame more, with a beginning of its reply
  pub breaks_after : (count : ℕ) → Appends t u (take count (reply_after new.stage))
      → BreaksReceiving marks a first host next s u
  breaks_after count now = record {
    after = c;
    reached = new;
    came = came;
    kept = kept;
    count = length (replies_to k.0.messages) + count;
    replied = subst (λ (xs : List ℕ). Appends s u xs)
        (sym (take-append-add (replies_to k.0.messages) (reply_after new.stage) count)
        ∙ ap (take (length (replies_to k.0.messages) + count)) replies)
        (Appends-trans s t u (replies_to k.0.messages) (take count (reply_after new.stage)) k.2 now);
  }
