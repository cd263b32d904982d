-- A sender from its beginning on, and a receiver that reads all that it wrote.
use Rattle.std.proofs.Common.{◌≡◌, ℕ, ◌+◌, ◌-◌, ◌^◌, ◌<◌, Bool, List, [], ◌∷◌, ◌++◌, length, map, replicate, Option, Some, None, option_map, inl, inr, refl, sym, ap, subst, ◌∙◌, append-nil, arith}
use Rattle.std.specs.Io.KnownBytes.{Appends, Consumes}
use Rattle.std.specs.Prelude.{flat_map, slice_get}
use Rattle.std.proofs.lemmas.Bool.{cond-true}
use Rattle.std.proofs.lemmas.List.{length-replicate}
use Rattle.std.proofs.lemmas.Option.{none-some, same_Some, slice_get-map, slice_get_cases}
use Rattle.vm_memory_base.specs.Pages.{PageSet}
use Rattle.vm_memory_guest.specs.Host.{Host, block_at}
use Rattle.live_migration.specs.Calls.{EndsPaused, HasBegun, Moment, ReadsAll}
use Rattle.live_migration.specs.Digests.{HasNoted}
use Rattle.live_migration.specs.Following.{IsSource}
use Rattle.live_migration.specs.Frame as message
use Rattle.live_migration.specs.Frame.{Message, spelling}
use Rattle.live_migration.specs.Header.{header_bytes}
use Rattle.live_migration.specs.Image.{arrived}
use Rattle.live_migration.specs.Rounds as event
use Rattle.live_migration.specs.Rounds.{AllMay, Ends, Event, IsBeginning, IsThrough, Source, after, after_round, story}
use Rattle.live_migration.specs.declared.header.BlockEntry.{BlockEntry}
use Rattle.live_migration.specs.declared.receiver.progress.Progress.{Progress}
use Rattle.live_migration.specs.declared.sender.pages.Target.{Target}
use Rattle.live_migration.proofs.BareLemmas.{made_at}
use Rattle.live_migration.proofs.CallsLemmas.{HasSent, all_go_on, appended, bare_arrives, end_sent, none_arrives, one_more, text}
use Rattle.live_migration.proofs.FollowingLemmas.{begin_follows, is_over, is_through}
use Rattle.live_migration.proofs.HeaderLemmas.{same_header}
use Rattle.live_migration.proofs.OneWayLemmas.{same_stream}
use Rattle.live_migration.proofs.RoundsLemmas as kept
use Rattle.live_migration.proofs.RunLemmas.{fits-append}
use Rattle.live_migration.proofs.SettledLemmas.{IsSettled, settled_story}
use Rattle.live_migration.proofs.WritingLemmas.{source_in, source_there}

-- ---- the beginning

abbrev first_image : Option Target → List ℕ
first_image None = []
first_image (Some t) = replicate t.entry.len 0

module _ {B : Type 0} (pages_of : B → PageSet) (m : Moment B) (begun : HasBegun pages_of m) where
  abbrev blocks : List Target
  blocks = m.sender.rounds.targets.items

  abbrev pub first_state : Ends
  first_state = record {
    count = length m.sender.rounds.targets.items;
    sources = λ j. source_in pages_of m.host (slice_get m.sender.rounds.targets.items j);
    images = λ j. first_image (slice_get m.sender.rounds.targets.items j);
    round = 0;
    turn = 0;
    last = m.sender.rounds.last;
    waiting = [];
    batch = [];
  }

  first_source : (j : ℕ) (t : Target) → slice_get m.sender.rounds.targets.items j ≡ Some t
      → IsSource pages_of t m.host (first_state.sources j)
  first_source j t at =
      let is = begun.targets.each j t at in
      let there = begun.targets.blocks.there j t at in
      subst (λ (x : Source). IsSource pages_of t m.host x)
      (sym (ap (source_in pages_of m.host) at ∙ source_there pages_of m.host t is.bitmap is.tracked is.was is.dirty))
      (record {
        bitmap = is.bitmap;
        there = is.was;
        pages = is.dirty;
        bytes = refl;
        size = is.size;
        covers = is.covers;
        len = there.1;
      })

  pub first_begins : IsBeginning first_state
  first_begins = record {
    round = refl;
    turn = refl;
    waiting = refl;
    batch = refl;
    sized = λ block l. elim (slice_get_cases m.sender.rounds.targets.items block).1 [
      | inl f ↦
          (let is = first_source block f.0 f.2 in
          let some = (begun.targets.each block f.0 f.2).some in
          omega (arith, is.size, some))
      | inr f ↦ absurd (let past = f.0 in omega arith)
    ];
    long = λ block l. elim (slice_get_cases m.sender.rounds.targets.items block).1 [
      | inl f ↦
          ap (λ (o : Option Target). length (first_image o)) f.2
          ∙ length-replicate f.0.entry.len 0 ∙ sym (first_source block f.0 f.2).len
      | inr f ↦ absurd (let past = f.0 in omega arith)
    ];
  }

  pub first_sent : HasSent pages_of begun.digests m.sender.rounds.targets.items m first_state []
  first_sent =
      let b = begun.begun in
      let header : List ℕ = header_bytes begun.digests (map (λ (t : Target). t.entry) m.sender.rounds.targets.items)
      in
      record {
        header = b.header;
        targets = refl;
        follows = begin_follows pages_of m.sender m.host first_state b.first begun.targets first_begins refl refl
            first_source;
        followed = λ block l. kept.beginning_follows first_state block first_begins l;
        stream = appended (Some []) m.stream [] header refl b.written ∙ ap Some (sym (append-nil header));
        hashed = subst (λ (x : List ℕ). HasNoted begun.digests m.sender.hasher x) (sym (append-nil header)) b.hashed;
        fits = tt;
        images = λ j t at. ap first_image at ∙ sym (none_arrives t.entry.page_size j (replicate t.entry.len 0));
      }

-- ---- a receiver that reads all of it

read_whole : (a b : Option (List ℕ)) (x header frames : List ℕ) → a ≡ Some x → Consumes a b header
    → Consumes b (Some []) frames → x ≡ header ++ frames
read_whole None b x header frames e p q = absurd (none-some x e)
read_whole (Some xs) None x header frames e p q = absurd p
read_whole (Some xs) (Some ys) x header frames e p q =
    sym (same_Some xs x e) ∙ p ∙ ap (λ (z : List ℕ). header ++ z) (q ∙ append-nil frames)

module _ {B C : Type 0} (made : ℕ → C → Type 0) (marks : C → ℕ → ℕ → C → Type 0) (pages_of : B → PageSet)
    (digests : Bool) (ts : List Target) (m : Moment B) (s : Ends) (ms : List Message)
    (h : HasSent pages_of digests ts m s ms) (sent : Option (List ℕ)) (p : Progress) (next : Host C)
    (gone : Appends m.stream sent (spelling message.Go)) (r : ReadsAll made marks sent p next)
  where
    -- each block is the image that the rounds say
    pub has_image : (j : ℕ) (t : Target) → slice_get ts j ≡ Some t → block_at next.blocks (p.base + j) ≡ s.images j
    has_image j t at =
        let all : List Message = ms ++ message.Go ∷ [] in
        let stream : sent ≡ Some (text digests ts all) =
        appended m.stream sent (text digests ts ms) (spelling message.Go) h.stream gone
        ∙ ap Some (one_more digests ts ms message.Go) in
        let whole = read_whole sent r.rest (text digests ts all) (header_bytes r.header.digests p.entries.items)
        (flat_map spelling r.frames.messages) stream r.header.consumed r.frames.consumed in
        let both = same_header (2 ^ 64 - 1) r.limit digests r.header.digests (map (λ (x : Target). x.entry) ts) p.entries.items
        (flat_map spelling all) (flat_map spelling r.frames.messages) h.header r.header.header whole in
        let same : all ≡ r.frames.messages =
        same_stream all r.frames.messages (fits-append ms (message.Go ∷ []) h.fits (tt, tt)) r.frames.fit both.2 in
        let there : slice_get p.entries.items j ≡ Some t.entry =
        ap (λ (es : List BlockEntry). slice_get es j) (sym both.1) ∙ slice_get-map (λ (x : Target). x.entry) ts j
        ∙ ap (option_map (λ (x : Target). x.entry)) at in
        r.frames.images j t.entry there
        ∙ ap (arrived t.entry.page_size j r.frames.messages)
        (made_at r.host.blocks r.begun.blocks p.entries.items p.base j t.entry
        (ap (λ (x : Host C). x.blocks) r.header.blocks.is) r.header.base there)
        ∙ ap (λ (xs : List Message). arrived t.entry.page_size j xs (replicate t.entry.len 0)) (sym same)
        ∙ bare_arrives t.entry.page_size j ms message.Go (replicate t.entry.len 0) (λ x. refl)
        ∙ sym (h.images j t at)

-- ---- a guest that is paused for a last round

module _ (are_listed : kept.AreListed) {B : Type 0} (pages_of : B → PageSet) (first last : Moment B)
    (begun : HasBegun pages_of first) (w : EndsPaused pages_of first last)
  where
    abbrev targets : List Target
    targets = first.sender.rounds.targets.items

    -- what the sender has sent in the end, and that the two ends are equal then
    pub record Ended : Type 0 where
      pub state : Ends
      pub messages : List Message
      pub sent : HasSent pages_of begun.digests first.sender.rounds.targets.items last state messages
      pub equal : (block : ℕ) → block < state.count → state.images block ≡ (state.sources block).bytes

    pub ends_equal : Ended
    ends_equal =
        let ts = first.sender.rounds.targets.items in
        let s0 = first_state pages_of first begun in
        let g = all_go_on pages_of begun.digests ts are_listed w.before first w.paused s0 [] (first_sent pages_of first begun)
        w.runs in
        let s1 = story g.events s0 in
        let k = all_go_on pages_of begun.digests ts are_listed w.round w.paused w.through s1 g.messages g.sent w.goes in
        let s2 = story k.events s1 in
        let end = w.ends.1 in
        let closed = end_sent pages_of begun.digests ts are_listed w.through w.ends.0 s2 k.messages k.sent end in
        let r = all_go_on pages_of begun.digests ts are_listed w.later w.ends.0 last (after event.EndRound s2) _ closed w.ends.2 in
        let through = is_through pages_of w.through.sender.rounds w.through.host s2 k.sent.follows end.idle end.through
        in
        let fresh : s1.turn ≡ 0 = g.sent.follows.turn ∙ w.begins in
        let cleared : kept.IsCleared s1 = λ block page l. absurd (omega arith) in
        let settled : IsSettled (after event.EndRound s2) =
        settles s2 through (kept.still_story_clears k.events s1 (k.still w.quiet.0) cleared) k.sent.followed in
        let stays = settled_story r.events (after event.EndRound s2) (r.still w.quiet.1) settled in
        record {
          state = story r.events (after event.EndRound s2);
          messages = r.messages;
          sent = r.sent;
          equal = stays.equal;
        }
      where
        settles : (s : Ends) → IsThrough s → kept.IsCleared s → ((block : ℕ) → block < s.count → kept.Follows s block)
            → IsSettled (after event.EndRound s)
        settles s t cleared f =
            let turned = t.turn in
            subst (λ (z : Ends). IsSettled z) (sym (cond-true _ _ _ (is_over s t))) (record {
              later = omega arith;
              waiting = t.waiting;
              batch = t.batch;
              clear = λ block page l. cleared block page (omega arith);
              equal = λ block l. kept.through_equal s block (f block l) cleared t l;
            })
