-- Looks for messages at a channel.
use Rattle.std.proofs.Common.{◌≡◌, ℕ, ◌+◌, ◌<◌, ◌≤◌, Bool, true, false, List, [], ◌∷◌, ◌++◌, length, Option, Some, None, Result, Ok, Err, arith, refl, sym, ap, subst, ◌∙◌, inl, inr, append_assoc}
use Rattle.std.proofs.lemmas.Bool.{ltb-false, ltb-true}
use Rattle.std.proofs.lemmas.List.{append-nil, take_all}
use Rattle.vhost_message.specs.Channel.{AllGaveSome, AllLook, AreKept, FoundNoMore, Given, Looks, Reads, ReadsOn, RefusedFor, bytes_given, found}
use Rattle.vhost_message.specs.Stream.{AreMessages, Call, Feeds, IsRest, Runs, Takes, bytes_of, messages_of, stream_of, wanted}
use Rattle.vhost_message.specs.Stream.Call.{Fed, Took}
use Rattle.vhost_message.specs.declared.channel.ChannelError.{ChannelError}
use Rattle.vhost_message.specs.declared.refusal.Refusal.{Refusal}
use Rattle.vhost_message.proofs.StreamLemmas.{cuts, rest_of}

abbrev known : ℕ → Result ℕ Refusal
known n = Ok n

abbrev no_bytes : List ℕ
no_bytes = []

-- ---- a look

-- so much is kept by reads that each gave some bytes
pub record Looked {R : Type 0} (gives : R → Given → R → Type 0) (old : List ℕ) (before : R) (now : List ℕ) (after : R)
    (count : ℕ) : Type 0 where
  pub gave : List Given
  pub reads : Reads gives gave before after
  pub some : AllGaveSome gave
  pub counted : length gave ≡ count
  pub are_kept : AreKept gave old now

module _ {R : Type 0} (gives : R → Given → R → Type 0) (old : List ℕ) (before : R) where
  pub looked_none : Looked gives old before old before 0
  looked_none = record { gave = []; reads = refl; some = tt; counted = refl; are_kept = refl }

  module _ (now : List ℕ) (mid : R) (count : ℕ) (l : Looked gives old before now mid count) where
    -- a read of what is no message yet
    module _ (taken : List ℕ) (part : Takes now None taken) where
      fed : (bytes next : List ℕ) → Feeds taken bytes (Ok (length bytes)) next → Feeds now bytes (Ok (length bytes)) next
      fed bytes next f = subst (λ (k : List ℕ). Feeds k bytes (Ok (length bytes)) next) part.1 f

      pub looked_more : (more : Bool) (next : List ℕ) (after : R) → more ≡ true
          → ReadsOn gives taken mid (Ok more) next after → Looked gives old before next after (count + 1)
      looked_more more next after some (bytes, given, feeds, is) = record {
        gave = Ok bytes ∷ l.gave;
        reads = (mid, l.reads, given);
        some = (ltb-true 0 (length bytes) (sym is ∙ some), l.some);
        counted = omega (arith, l.counted);
        are_kept = (now, l.are_kept, fed bytes next feeds);
      }

      nothing_more : (next : List ℕ) (after : R) → count < 2 → gives mid (Ok no_bytes) after
          → Feeds taken no_bytes (Ok 0) next → Looks gives old before (Ok None) next after
      nothing_more next after few given feeds =
          let same : next ≡ now = feeds.1 ∙ append-nil taken ∙ part.1 in
          record {
            gave = Ok no_bytes ∷ l.gave;
            kept = next;
            reads = (mid, l.reads, given);
            most = omega (arith, few, l.counted);
            are_kept = (now, l.are_kept, fed no_bytes next feeds);
            finds = (l.some, (λ whole. part.0 (sym (ap wanted same) ∙ whole), refl));
          }

      pub finds_nothing : (more : Bool) (next : List ℕ) (after : R) → count < 2 → more ≡ false
          → ReadsOn gives taken mid (Ok more) next after → Looks gives old before (Ok None) next after
      finds_nothing more next after few none ([], given, feeds, is) = nothing_more next after few given feeds
      finds_nothing more next after few none (b ∷ bs, given, feeds, is) =
          absurd (omega (arith, ltb-false 0 (length (b ∷ bs)) (sym is ∙ none)))

      pub finds_error : (e : ChannelError) (next : List ℕ) (after : R) → count < 2
          → ReadsOn gives taken mid (Err e) next after → Looks gives old before (Err e) next after
      finds_error e next after few (inl given, same) = record {
        gave = Err e ∷ l.gave;
        kept = now;
        reads = (mid, l.reads, given);
        most = omega (arith, few, l.counted);
        are_kept = l.are_kept;
        finds = (inl (refl, l.some), (part.0, same ∙ part.1));
      }
      finds_error e next after few (inr (refused, still), same) = record {
        gave = l.gave;
        kept = now;
        reads = subst (λ (r : R). Reads gives l.gave before r) (sym still) l.reads;
        most = omega (arith, few, l.counted);
        are_kept = l.are_kept;
        finds = (inr (subst (λ (k : List ℕ). RefusedFor e k) part.1 refused, l.some), (part.0, same ∙ part.1));
      }

    pub finds_message : (message next : List ℕ) → count ≤ 2 → Takes now (Some message) next
        → Looks gives old before (Ok (Some message)) next mid
    finds_message message next few takes = record {
      gave = l.gave;
      kept = now;
      reads = l.reads;
      most = omega (arith, few, l.counted);
      are_kept = l.are_kept;
      finds = (l.some, takes);
    }

    no_more : (gs : List Given) → AllGaveSome gs → length gs ≡ 2 → FoundNoMore gs
    no_more [] some two = absurd (omega (arith, two))
    no_more (Ok [] ∷ gs) some two = absurd (omega (arith, some.0))
    no_more (Ok (b ∷ bs) ∷ gs) some two = (some, two)
    no_more (Err e ∷ gs) some two = absurd some.0

    -- the last try
    pub finds_last : (answer : Option (List ℕ)) (next : List ℕ) → count ≡ 2 → Takes now answer next
        → Looks gives old before (Ok answer) next mid
    finds_last (Some message) next two takes = finds_message message next (omega (arith, two)) takes
    finds_last None next two takes = record {
      gave = l.gave;
      kept = now;
      reads = l.reads;
      most = omega (arith, two, l.counted);
      are_kept = l.are_kept;
      finds = (no_more l.gave l.some (l.counted ∙ two), takes);
    }

-- ---- looks one after the other

bytes_join : (new old : List Given) → bytes_given (new ++ old) ≡ bytes_given old ++ bytes_given new
bytes_join [] old = sym (append-nil (bytes_given old))
bytes_join (Ok bytes ∷ new) old =
    ap (λ (t : List ℕ). t ++ bytes) (bytes_join new old)
    ∙ append_assoc (bytes_given old) (bytes_given new) bytes
bytes_join (Err e ∷ new) old = bytes_join new old

-- calls that were made, and more that kept these bytes and took these messages
pub record Goes (calls : List Call) (bytes : List ℕ) (messages : List (List ℕ)) (new : List ℕ) : Type 0 where
  pub more : List Call
  pub runs : Runs more new
  pub bytes_on : bytes_of more ≡ bytes_of calls ++ bytes
  pub messages_on : messages_of more ≡ messages_of calls ++ messages

abbrev none_taken : List (List ℕ)
none_taken = []

-- reads whose bytes are kept are calls that keep them
reads_go : (gs : List Given) (old new : List ℕ) (calls : List Call) → Runs calls old → AreKept gs old new
    → Goes calls (bytes_given gs) none_taken new
reads_go [] old new calls run same = record {
  more = calls;
  runs = subst (λ (k : List ℕ). Runs calls k) (sym same) run;
  bytes_on = sym (append-nil (bytes_of calls));
  messages_on = sym (append-nil (messages_of calls));
}
reads_go (Ok bytes ∷ gs) old new calls run (mid, are_kept, feeds) =
    let g = reads_go gs old mid calls run are_kept in
    record {
      more = Fed bytes ∷ g.more;
      runs = (mid, bytes, length bytes, g.runs, feeds, sym (take_all (length bytes) bytes (omega arith)));
      bytes_on = ap (λ (t : List ℕ). t ++ bytes) g.bytes_on ∙ append_assoc (bytes_of calls) (bytes_given gs) bytes;
      messages_on = g.messages_on;
    }
reads_go (Err e ∷ gs) old new calls run are_kept = reads_go gs old new calls run are_kept

-- what a look found
abbrev found_by : Result (Option (List ℕ)) ChannelError → List (List ℕ)
found_by answer = found (answer ∷ [])

abbrev pub IsNotWhole : List ℕ → Type 0
IsNotWhole kept = wanted kept ≡ known 0 → ⊥

none_is_kept : IsNotWhole []
none_is_kept whole = absurd cc

module _ {R : Type 0} (gives : R → Given → R → Type 0) where
  -- a look is such calls, and leaves no whole message
  look_goes : (answer : Result (Option (List ℕ)) ChannelError) (old new : List ℕ) (before after : R) (calls : List Call)
      → Runs calls old → (l : Looks gives old before answer new after)
      → Goes calls (bytes_given l.gave) (found_by answer) new × IsNotWhole new
  look_goes (Ok (Some message)) old new before after calls run l =
      let g = reads_go l.gave old l.kept calls run l.are_kept in
      let takes = l.finds.1 in (
        record {
          more = Took message ∷ g.more;
          runs = (l.kept, g.runs, takes);
          bytes_on = g.bytes_on;
          messages_on = ap (λ (ms : List (List ℕ)). ms ++ message ∷ [])
              (g.messages_on ∙ append-nil (messages_of calls));
        },
        subst (λ (k : List ℕ). IsNotWhole k) (sym takes.2) none_is_kept,
      )
  look_goes (Ok None) old new before after calls run l =
      let g = reads_go l.gave old l.kept calls run l.are_kept in
      let takes = l.finds.1 in (
        record {
          more = g.more;
          runs = subst (λ (k : List ℕ). Runs g.more k) (sym takes.1) g.runs;
          bytes_on = g.bytes_on;
          messages_on = g.messages_on;
        },
        subst (λ (k : List ℕ). IsNotWhole k) (sym takes.1) takes.0,
      )
  look_goes (Err e) old new before after calls run l =
      let g = reads_go l.gave old l.kept calls run l.are_kept in
      let takes = l.finds.1 in (
        record {
          more = g.more;
          runs = subst (λ (k : List ℕ). Runs g.more k) (sym takes.1) g.runs;
          bytes_on = g.bytes_on;
          messages_on = g.messages_on;
        },
        subst (λ (k : List ℕ). IsNotWhole k) (sym takes.1) takes.0,
      )

  reads_join : (new old : List Given) (before mid after : R) → Reads gives old before mid → Reads gives new mid after
      → Reads gives (new ++ old) before after
  reads_join [] old before mid after o n = subst (λ (r : R). Reads gives old before r) (sym n) o
  reads_join (g ∷ new) old before mid after o n = (n.0, reads_join new old before mid n.0 o n.1, n.2)

  pub record AllGo (calls : List Call) (before : R) (messages : List (List ℕ)) (new : List ℕ) (after : R) : Type 0 where
    pub gave : List Given
    pub reads : Reads gives gave before after
    pub goes : Goes calls (bytes_given gave) messages new
    pub rest : IsNotWhole new

  found_more : (answer : Result (Option (List ℕ)) ChannelError) (answers : List (Result (Option (List ℕ)) ChannelError))
      → found (answer ∷ answers) ≡ found_by answer ++ found answers
  found_more (Ok (Some message)) answers = refl
  found_more (Ok None) answers = refl
  found_more (Err e) answers = refl

  pub all_go : (answers : List (Result (Option (List ℕ)) ChannelError)) (old new : List ℕ) (before after : R)
      (calls : List Call) → Runs calls old → IsNotWhole old → AllLook gives old before answers new after
      → AllGo calls before (found answers) new after
  all_go [] old new before after calls run rest a = record {
    gave = [];
    reads = a.1;
    goes = reads_go [] old new calls run a.0;
    rest = subst (λ (k : List ℕ). IsNotWhole k) (sym a.0) rest;
  }
  all_go (answer ∷ answers) old new before after calls run rest (kept, mid, l, looks) =
      let g = look_goes answer old kept before mid calls run l in
      let first = g.0 in
      let later = all_go answers kept new mid after first.more first.runs g.1 looks in
      record {
        gave = later.gave ++ l.gave;
        reads = reads_join later.gave l.gave before mid after l.reads later.reads;
        goes = record {
          more = later.goes.more;
          runs = later.goes.runs;
          bytes_on = later.goes.bytes_on
              ∙ ap (λ (t : List ℕ). t ++ bytes_given later.gave) first.bytes_on
              ∙ append_assoc (bytes_of calls) (bytes_given l.gave) (bytes_given later.gave)
              ∙ ap (λ (t : List ℕ). bytes_of calls ++ t) (sym (bytes_join later.gave l.gave));
          messages_on = later.goes.messages_on
              ∙ ap (λ (ms : List (List ℕ)). ms ++ found answers) first.messages_on
              ∙ append_assoc (messages_of calls) (found_by answer) (found answers)
              ∙ ap (λ (ms : List (List ℕ)). messages_of calls ++ ms) (sym (found_more answer answers));
        };
        rest = later.rest;
      }

  -- from nothing on
  pub record AllCut (before : R) (messages : List (List ℕ)) (new : List ℕ) (after : R) : Type 0 where
    pub gave : List Given
    pub reads : Reads gives gave before after
    pub stream : bytes_given gave ≡ stream_of messages new
    pub are : AreMessages messages
    pub rest : IsRest new

  pub all_cut : (answers : List (Result (Option (List ℕ)) ChannelError)) (new : List ℕ) (before after : R)
      → AllLook gives [] before answers new after → AllCut before (found answers) new after
  all_cut answers new before after looks =
      let a = all_go answers [] new before after [] refl none_is_kept looks in
      let c = cuts a.goes.more new a.goes.runs in
      record {
        gave = a.gave;
        reads = a.reads;
        stream = sym a.goes.bytes_on ∙ c.stream
            ∙ ap (λ (ms : List (List ℕ)). stream_of ms new) a.goes.messages_on;
        are = subst AreMessages a.goes.messages_on c.messages;
        rest = rest_of a.goes.more new a.goes.runs a.rest;
      }
