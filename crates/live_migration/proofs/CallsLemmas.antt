-- What the calls of a sender send, step by step, in the words of the rounds.
use Rattle.std.proofs.Common.{◌≡◌, ℕ, ◌-◌, ◌^◌, ◌<◌, Bool, List, [], ◌∷◌, ◌++◌, map, replicate, Option, Some, None, refl, sym, ap, subst, ◌∙◌, append_assoc, append-nil}
use Rattle.std.specs.Global.{Vec}
use Rattle.std.specs.Io.KnownBytes.{Appends}
use Rattle.std.specs.List.{AllByRecursion}
use Rattle.std.specs.Prelude.{flat_map, slice_get}
use Rattle.std.proofs.lemmas.Bool.{cond_both}
use Rattle.std.proofs.lemmas.List.Concat.{flat_map-append}
use Rattle.std.proofs.lemmas.Option.{none-some, same_Some}
use Rattle.vm_memory_base.specs.Pages.{PageSet}
use Rattle.vm_memory_guest.specs.Host.{Host}
use Rattle.live_migration.specs.Calls as call
use Rattle.live_migration.specs.Calls.{Call, DoAll, Does, IsQuiet, Moment}
use Rattle.live_migration.specs.Digests.{HasNoted, digest_of}
use Rattle.live_migration.specs.Following.{Follows}
use Rattle.live_migration.specs.Frame as message
use Rattle.live_migration.specs.Frame.{IsMessage, Message, RoundEnd, spelling}
use Rattle.live_migration.specs.Header.{IsHeader, header_bytes}
use Rattle.live_migration.specs.Image.{arrived, received}
use Rattle.live_migration.specs.Rounds as event
use Rattle.live_migration.specs.Rounds.{AllMay, AllStill, Ends, Event, after, after_harvest, after_round, is_round_over, may_harvest, size_of, story}
use Rattle.live_migration.specs.Sending.{page_size_at, page_size_of}
use Rattle.live_migration.specs.Writing.{all_written}
use Rattle.live_migration.specs.declared.digest.StreamHasher.{StreamHasher}
use Rattle.live_migration.specs.declared.sender.pages.Target.{Target}
use Rattle.live_migration.specs.declared.sender.rounds.Rounds.{Rounds}
use Rattle.live_migration.specs.declared.sender.stream.Sender.{Sender}
use Rattle.live_migration.proofs.FollowingLemmas.{copy_follows, harvest_follows, refused_follows, round_follows, send_follows}
use Rattle.live_migration.proofs.ImageLemmas.{arrived-append}
use Rattle.live_migration.proofs.RoundsLemmas as kept
use Rattle.live_migration.proofs.RunLemmas.{fits-append, singles_arrive}
use Rattle.live_migration.proofs.WritingLemmas.{sources_now, writes_follow, writes_may, writes_rewrite}

-- ---- events one after the other

story-append : (es fs : List Event) (s : Ends) → story (es ++ fs) s ≡ story fs (story es s)
unfolding story
story-append [] fs s = refl
story-append (e ∷ es) fs s = story-append es fs (after e s)

may-append : (es fs : List Event) (s : Ends) → AllMay es s → AllMay fs (story es s) → AllMay (es ++ fs) s
unfolding story AllMay
may-append [] fs s a b = b
may-append (e ∷ es) fs s a b = (a.0, may-append es fs (after e s) a.1 b)

still-append : (es fs : List Event) → AllStill es → AllStill fs → AllStill (es ++ fs)
unfolding AllStill
still-append [] fs a b = b
still-append (e ∷ es) fs a b = (a.0, still-append es fs a.1 b)

-- ---- messages one after the other

-- a header and messages, as they are spelled
abbrev pub text : Bool → List Target → List Message → List ℕ
text digests ts ms = header_bytes digests (map (λ t. t.entry) ts) ++ flat_map spelling ms

text_more : (digests : Bool) (ts : List Target) (ms ns : List Message)
    → text digests ts ms ++ flat_map spelling ns ≡ text digests ts (ms ++ ns)
text_more digests ts ms ns =
    let header = header_bytes digests (map (λ (t : Target). t.entry) ts) in
    append_assoc header (flat_map spelling ms) (flat_map spelling ns)
    ∙ ap (λ (x : List ℕ). header ++ x) (sym (flat_map-append spelling ms ns))

pub one_more : (digests : Bool) (ts : List Target) (ms : List Message) (m : Message)
    → text digests ts ms ++ spelling m ≡ text digests ts (ms ++ m ∷ [])
one_more digests ts ms m =
    ap (λ (x : List ℕ). text digests ts ms ++ x) (sym (append-nil (spelling m))) ∙ text_more digests ts ms (m ∷ [])

-- what a stream has when more was written
pub appended : (a b : Option (List ℕ)) (xs bytes : List ℕ) → a ≡ Some xs → Appends a b bytes → b ≡ Some (xs ++ bytes)
appended None b xs bytes e h = absurd (none-some xs e)
appended (Some ys) None xs bytes e h = absurd h
appended (Some ys) (Some zs) xs bytes e h = ap Some (h ∙ ap (λ (x : List ℕ). x ++ bytes) (same_Some ys xs e))

-- a message that leaves every image
pub bare_arrives : (size block : ℕ) (ms : List Message) (m : Message) (image : List ℕ)
    → ((x : List ℕ) → received size block m x ≡ x)
    → arrived size block (ms ++ m ∷ []) image ≡ arrived size block ms image
unfolding arrived
bare_arrives size block ms m image bare =
    arrived-append size block ms (m ∷ []) image ∙ bare (arrived size block ms image)

pub none_arrives : (size block : ℕ) (image : List ℕ) → arrived size block [] image ≡ image
unfolding arrived
none_arrives size block image = refl

-- ---- a sender that has sent these messages

module _ {B : Type 0} (pages_of : B → PageSet) (digests : Bool) (ts : List Target) where
  -- It has what the state says, each image is what the messages left of zeros, and no block's page is lost
  pub record HasSent (m : Moment B) (s : Ends) (ms : List Message) : Type 0 where
    pub header : IsHeader (2 ^ 64 - 1) (map (λ t. t.entry) ts)
    pub targets : m.sender.rounds.targets.items ≡ ts
    pub follows : Follows pages_of m.sender.rounds m.host s
    pub followed : (block : ℕ) → block < s.count → kept.Follows s block
    pub stream : m.stream ≡ Some (text digests ts ms)
    pub hashed : HasNoted digests m.sender.hasher (text digests ts ms)
    pub fits : AllByRecursion IsMessage ms
    pub images : (j : ℕ) (t : Target) → slice_get ts j ≡ Some t
        → s.images j ≡ arrived t.entry.page_size j ms (replicate t.entry.len 0)

  -- and so after events that may come
  pub record Goes (quiet : Type 0) (s : Ends) (m : Moment B) : Type 0 where
    pub events : List Event
    pub messages : List Message
    pub may : AllMay events s
    pub still : quiet → AllStill events
    pub sent : HasSent m (story events s) messages

  module _ (are_listed : kept.AreListed) where
    followed_on : (es : List Event) (s : Ends) → AllMay es s
        → ((block : ℕ) → block < s.count → kept.Follows s block) → (block : ℕ) → block < (story es s).count
        → kept.Follows (story es s) block
    followed_on es s may f block l =
        let within : block < s.count = subst (λ (n : ℕ). block < n) (kept.story_count es s) l in
        kept.story_follows are_listed es s block within may (f block within)

    module _ (old new : Moment B) (s : Ends) (ms : List Message) (h : HasSent old s ms) where
      target_at : (j : ℕ) (t : Target) → slice_get ts j ≡ Some t
          → slice_get old.sender.rounds.targets.items j ≡ Some t
      target_at j t at = ap (λ (xs : List Target). slice_get xs j) h.targets ∙ at

      hashed_as : new.sender.hasher ≡ old.sender.hasher → HasNoted digests new.sender.hasher (text digests ts ms)
      hashed_as e = subst (λ (x : StreamHasher). HasNoted digests x (text digests ts ms)) (sym e) h.hashed

      go_write : call.WritesGuest pages_of old new → Goes ⊥ s new
      go_write d =
          let es = all_written (sources_now pages_of d.windows old.sender.rounds old.host new.host s h.follows d.own
          d.changes) s.count in
          let may : AllMay es s =
          writes_may pages_of d.windows old.sender.rounds old.host new.host s h.follows d.own d.changes in
          let r = writes_rewrite pages_of d.windows old.sender.rounds old.host new.host s h.follows d.own d.changes in
          record {
            events = es;
            messages = ms;
            may = may;
            still = λ quiet. absurd quiet;
            sent = record {
              header = h.header;
              targets = ap (λ (x : Sender). x.rounds.targets.items) d.sender ∙ h.targets;
              follows = subst (λ (x : Sender). Follows pages_of x.rounds new.host (story es s)) (sym d.sender)
                  (writes_follow pages_of d.windows old.sender.rounds old.host new.host s h.follows d.own d.changes);
              followed = followed_on es s may h.followed;
              stream = d.stream ∙ h.stream;
              hashed = hashed_as (ap (λ (x : Sender). x.hasher) d.sender);
              fits = h.fits;
              images = λ j t at. ap (λ (f : ℕ → List ℕ). f j) r.images ∙ h.images j t at;
            };
          }

      go_ready : call.HearsReady old new → Goes (Unit {0}) s new
      unfolding story AllMay AllStill
      go_ready d = record {
        events = [];
        messages = ms;
        may = tt;
        still = λ quiet. tt;
        sent = record {
          header = h.header;
          targets = ap (λ (r : Rounds). r.targets.items) d.rounds ∙ h.targets;
          follows = subst (λ (w : Host B). Follows pages_of new.sender.rounds w s) (sym d.host)
              (subst (λ (r : Rounds). Follows pages_of r old.host s) (sym d.rounds) h.follows);
          followed = h.followed;
          stream = d.stream ∙ h.stream;
          hashed = hashed_as d.hasher;
          fits = h.fits;
          images = h.images;
        };
      }

      go_refuse : call.RefusesCall old new → Goes (Unit {0}) s new
      unfolding story AllMay AllStill
      go_refuse d = record {
        events = [];
        messages = ms;
        may = tt;
        still = λ quiet. tt;
        sent = record {
          header = h.header;
          targets = ap (λ (v : Vec Target). v.items) d.stays.kept.targets ∙ h.targets;
          follows = subst (λ (w : Host B). Follows pages_of new.sender.rounds w s) (sym d.host)
              (refused_follows pages_of old.sender.rounds new.sender.rounds old.host s h.follows d.stays);
          followed = h.followed;
          stream = d.stream ∙ h.stream;
          hashed = hashed_as d.hasher;
          fits = h.fits;
          images = h.images;
        };
      }

      go_harvest : call.HarvestsBlock pages_of old new → Goes (Unit {0}) s new
      unfolding story AllMay AllStill
      go_harvest d =
          let x = d.taken in
          let same : (after event.Harvest s).batch ≡ s.batch =
          cond_both (may_harvest s) (after_harvest s) s (λ t. t.batch ≡ s.batch) (λ e. refl) (λ e. refl) in
          let images : (after event.Harvest s).images ≡ s.images =
          cond_both (may_harvest s) (after_harvest s) s (λ t. t.images ≡ s.images) (λ e. refl) (λ e. refl) in
          record {
            events = event.Harvest ∷ [];
            messages = ms;
            may = (tt, tt);
            still = λ quiet. (tt, tt);
            sent = record {
              header = h.header;
              targets = ap (λ (v : Vec Target). v.items) x.same.0 ∙ h.targets;
              follows = harvest_follows pages_of old.sender.rounds new.sender.rounds old.host new.host s h.follows x;
              followed = followed_on (event.Harvest ∷ []) s (tt, tt) h.followed;
              stream = d.stream ∙ h.stream;
              hashed = hashed_as d.hasher;
              fits = h.fits;
              images = λ j t at. ap (λ (f : ℕ → List ℕ). f j) images ∙ h.images j t at;
            };
          }

      go_copy : (n : ℕ) → call.CopiesBatch old new n → Goes (Unit {0}) s new
      unfolding story AllMay AllStill
      go_copy n d =
          let x = d.copied in
          record {
            events = event.Copy n ∷ [];
            messages = ms;
            may = (tt, tt);
            still = λ quiet. (tt, tt);
            sent = record {
              header = h.header;
              targets = ap (λ (v : Vec Target). v.items) x.same.0 ∙ h.targets;
              follows = subst (λ (w : Host B). Follows pages_of new.sender.rounds w (after (event.Copy n) s))
                  (sym d.host) (copy_follows pages_of n old.sender.rounds new.sender.rounds old.host s h.follows x);
              followed = followed_on (event.Copy n ∷ []) s (tt, tt) h.followed;
              stream = d.stream ∙ h.stream;
              hashed = hashed_as d.hasher;
              fits = h.fits;
              images = h.images;
            };
          }

      go_send : call.SendsBatch old new → Goes (Unit {0}) s new
      unfolding story AllMay AllStill
      go_send d =
          let sent = h.follows.messages in
          let same : text digests ts ms ++ old.sender.rounds.batch.items ≡ text digests ts (ms ++ sent) =
          ap (λ (x : List ℕ). text digests ts ms ++ x) h.follows.batch ∙ text_more digests ts ms sent in
          record {
            events = event.Send ∷ [];
            messages = ms ++ sent;
            may = (tt, tt);
            still = λ quiet. (tt, tt);
            sent = record {
              header = h.header;
              targets = ap (λ (v : Vec Target). v.items) d.kept.targets ∙ h.targets;
              follows = subst (λ (w : Host B). Follows pages_of new.sender.rounds w (after event.Send s)) (sym d.host)
                  (send_follows pages_of old.sender.rounds new.sender.rounds old.host s h.follows d.kept d.turn d.round
                  d.none);
              followed = followed_on (event.Send ∷ []) s (tt, tt) h.followed;
              stream = appended old.stream new.stream (text digests ts ms) old.sender.rounds.batch.items h.stream d.sent.written
                  ∙ ap Some same;
              hashed = subst (λ (x : List ℕ). HasNoted digests new.sender.hasher x) same (d.sent.hashed digests (text digests ts ms) h.hashed);
              fits = fits-append ms sent h.fits h.follows.fit;
              images = λ j t at.
                  ap (λ (size : ℕ). arrived size j s.batch (s.images j)) (h.follows.sources j t (target_at j t at)).size
                  ∙ ap (λ (xs : List Message). arrived t.entry.page_size j xs (s.images j)) (sym h.follows.pages)
                  ∙ singles_arrive t.entry.page_size j (page_size_at old.sender.rounds.targets.items)
                  (ap page_size_of (target_at j t at)) sent (s.images j)
                  ∙ ap (arrived t.entry.page_size j sent) (h.images j t at)
                  ∙ sym (arrived-append t.entry.page_size j ms sent (replicate t.entry.len 0));
            };
          }

      -- a frame that leaves the rounds and every image
      go_frame : (m : Message) → ((size block : ℕ) (x : List ℕ) → received size block m x ≡ x)
          → call.SendsFrame old new m → Goes (Unit {0}) s new
      unfolding story AllMay AllStill
      go_frame m bare d = record {
        events = [];
        messages = ms ++ m ∷ [];
        may = tt;
        still = λ quiet. tt;
        sent = record {
          header = h.header;
          targets = ap (λ (r : Rounds). r.targets.items) d.rounds ∙ h.targets;
          follows = subst (λ (w : Host B). Follows pages_of new.sender.rounds w s) (sym d.host)
              (subst (λ (r : Rounds). Follows pages_of r old.host s) (sym d.rounds) h.follows);
          followed = h.followed;
          stream = appended old.stream new.stream (text digests ts ms) (spelling m) h.stream d.sent.written
              ∙ ap Some (one_more digests ts ms m);
          hashed = subst (λ (x : List ℕ). HasNoted digests new.sender.hasher x) (one_more digests ts ms m)
              (d.sent.hashed digests (text digests ts ms) h.hashed);
          fits = fits-append ms (m ∷ []) h.fits (d.fits, tt);
          images = λ j t at.
              h.images j t at
              ∙ sym (bare_arrives t.entry.page_size j ms m (replicate t.entry.len 0) (bare t.entry.page_size j));
        };
      }

      pub ended : call.EndsRound old new → Message
      ended d = RoundEnd old.sender.rounds.round (digest_of digests (text digests ts ms))

      pub end_sent : (d : call.EndsRound old new) → HasSent new (after event.EndRound s) (ms ++ ended d ∷ [])
      unfolding ended story AllMay
      end_sent d =
          let m : Message = RoundEnd old.sender.rounds.round (digest_of digests (text digests ts ms)) in
          let said = d.sent digests (text digests ts ms) h.hashed in
          let same : (after event.EndRound s).batch ≡ s.batch =
          cond_both (is_round_over s) (after_round s) s (λ t. t.batch ≡ s.batch) (λ e. refl) (λ e. refl) in
          let images : (after event.EndRound s).images ≡ s.images =
          cond_both (is_round_over s) (after_round s) s (λ t. t.images ≡ s.images) (λ e. refl) (λ e. refl) in
          record {
            header = h.header;
            targets = ap (λ (v : Vec Target). v.items) d.kept.targets ∙ h.targets;
            follows = subst (λ (w : Host B). Follows pages_of new.sender.rounds w (after event.EndRound s)) (sym d.host)
                (round_follows pages_of old.sender.rounds new.sender.rounds old.host s h.follows d.kept d.idle d.through
                d.turn d.round d.batch);
            followed = followed_on (event.EndRound ∷ []) s (tt, tt) h.followed;
            stream = appended old.stream new.stream (text digests ts ms) (spelling m) h.stream said.1.written
                ∙ ap Some (one_more digests ts ms m);
            hashed = subst (λ (x : List ℕ). HasNoted digests new.sender.hasher x) (one_more digests ts ms m)
                (said.1.hashed digests (text digests ts ms) h.hashed);
            fits = fits-append ms (m ∷ []) h.fits (said.0, tt);
            images = λ j t at.
                ap (λ (f : ℕ → List ℕ). f j) images ∙ h.images j t at
                ∙ sym (bare_arrives t.entry.page_size j ms m (replicate t.entry.len 0) (λ x. refl));
          }

      go_end : call.EndsRound old new → Goes (Unit {0}) s new
      unfolding story AllMay AllStill
      go_end d = record {
        events = event.EndRound ∷ [];
        messages = ms ++ ended d ∷ [];
        may = (tt, tt);
        still = λ quiet. (tt, tt);
        sent = end_sent d;
      }

    -- a call
    goes_on : (c : Call) (old new : Moment B) (s : Ends) (ms : List Message) → HasSent old s ms
        → Does pages_of c old new → Goes (IsQuiet c) s new
    goes_on call.WriteGuest old new s ms h d = go_write old new s ms h d
    goes_on call.Refuse old new s ms h d = go_refuse old new s ms h d
    goes_on call.Ready old new s ms h d = go_ready old new s ms h d
    goes_on call.Harvest old new s ms h d = go_harvest old new s ms h d
    goes_on (call.Copy count) old new s ms h d = go_copy old new s ms h count d
    goes_on call.Send old new s ms h d = go_send old new s ms h d
    goes_on (call.SendSection name bytes) old new s ms h d =
        go_frame old new s ms h (message.Section name bytes) (λ size block x. refl) d
    goes_on call.EndRound old new s ms h d = go_end old new s ms h d
    goes_on call.Done old new s ms h d = go_frame old new s ms h message.Done (λ size block x. refl) d

    -- calls one after the other
    pub all_go_on : (cs : List Call) (old new : Moment B) (s : Ends) (ms : List Message) → HasSent old s ms
        → DoAll pages_of cs old new → Goes (AllByRecursion IsQuiet cs) s new
    unfolding story AllMay AllStill
    all_go_on [] old new s ms h d = record {
      events = [];
      messages = ms;
      may = tt;
      still = λ quiet. tt;
      sent = subst (λ (m : Moment B). HasSent m s ms) (sym d) h;
    }
    all_go_on (c ∷ cs) old new s ms h d =
        let g = goes_on c old d.0 s ms h d.1 in
        let r = all_go_on cs d.0 new (story g.events s) g.messages g.sent d.2 in
        record {
          events = g.events ++ r.events;
          messages = r.messages;
          may = may-append g.events r.events s g.may r.may;
          still = λ quiet. still-append g.events r.events (g.still quiet.0) (r.still quiet.1);
          sent = subst (λ (z : Ends). HasSent new z r.messages) (sym (story-append g.events r.events s)) r.sent;
        }

-- more calls after others
pub calls-append : {B : Type 0} (pages_of : B → PageSet) (cs ds : List Call) (first mid last : Moment B)
    → DoAll pages_of cs first mid → DoAll pages_of ds mid last → DoAll pages_of (cs ++ ds) first last
calls-append {B} pages_of [] ds first mid last done more =
    subst (λ (m : Moment B). DoAll pages_of ds m last) done more
calls-append pages_of (x ∷ xs) ds first mid last done more =
    (done.0, done.1, calls-append pages_of xs ds done.0 mid last done.2 more)
