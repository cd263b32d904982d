-- What follows if nothing leads elsewhere than the front end's messages say.
use Rattle.std.proofs.Common.{◌≡◌, ◌∙◌, ℕ, ◌+◌, ◌-◌, ◌<◌, ◌≤◌, ◌^◌, Bool, true, false, List, [], ◌∷◌, ◌++◌, All, Contains, Option, Some, None, IfSome, IsSomeAnd, if◌then◌else◌, refl, ap, sym, subst, arith, inl, inr}
use Rattle.std.specs.List.{slice_get}
use Rattle.std.proofs.lemmas.List.Elements.{All-contains, All-head, All-tail, All-weaker}
use Rattle.vm_memory_base.specs.Address.{difference, is_within, step}
use Rattle.vm_memory_base.specs.Permissions.{allow}
use Rattle.vm_memory_base.specs.Table.{Mapping, Says, Table, says, target}
use Rattle.vm_memory_base.specs.declared.iotlb.Permissions.{Permissions}
use Rattle.vm_memory_base.proofs.RunsLaws.{within_or_not}
use Rattle.vhost_iotlb.specs.Kept.{IsCurrent, after_change}
use Rattle.vhost_iotlb.specs.Leads.{LeadOn, LeadsTo}
use Rattle.vhost_iotlb.specs.declared.kept.Change.{Change}
use Rattle.vhost_iotlb.specs.declared.kept.Change.TheVariants.{Map, Unmap}
use Rattle.vhost_iotlb.specs.declared.kept.Kept.{Kept}
use Rattle.vhost_backend.specs.BlockQueue.{BlockQueueState}
use Rattle.vhost_backend.specs.Current.{Current, FetchStands, IsKeptBy, IsUsedBy, LeadsNowhere, QueueStands, Stands, after_changes, maps}
use Rattle.vhost_backend.specs.declared.block_connection.BlockConnection.{BlockConnection}
use Rattle.vhost_backend.specs.declared.block_queue.Asked.{Asked}

-- ---- ranges that stand

-- an address of a range, as one so far from its first
at_of : (k : Kept) (x : ℕ) → is_within k.iova k.len x ≡ true → (i : ℕ) × (i < k.len) × (k.iova + i ≡ x)
at_of k x within = elim (within_or_not k.iova k.len x) [
  | inl is ↦ (x - k.iova, omega (arith, is.1, is.2), omega (arith, is.1))
  | inr isnt ↦ let bad : true ≡ false = sym within ∙ isnt.0 in absurd (cc)
]

-- it has none of which nothing is said
has_none : (f : Says) (k : Kept) (x : ℕ) → Stands f k → f x ≡ None → is_within k.iova k.len x ≡ true → ⊥
has_none f k x stands none within =
    let (i, below, is) = at_of k x within in
    let nowhere : f (k.iova + i) ≡ None = ap f is ∙ none in
    let leads = stands.1 i below in
    subst (λ (o : Option Mapping).
    IsSomeAnd o (λ m. (target (k.iova + i) m ≡ step k.base i) × (allow m.permissions k.access ≡ true))) nowhere leads

module _ (f : Says) (q : BlockQueueState) (stands : QueueStands f q) (k : Kept) where
  pub kept_stands : IsKeptBy q.reach k → Stands f k
  kept_stands (inl page) = All-contains (Stands f) q.reach.pages k stands.pages page
  kept_stands (inr row) = All-contains (Stands f) q.reach.rows k stands.rows row

  pub used_stands : IsUsedBy q k → Stands f k
  used_stands (inl kept) = kept_stands kept
  used_stands (inr (inl (g, is, among))) =
      All-contains (Stands f) g.kept k (subst (λ o. IfSome o (FetchStands f q.reach)) is stands.fetch).0 among
  used_stands (inr (inr (id, a, there, among))) =
      All-contains (Stands f) a.kept k (stands.asked id a there).0 among

-- ---- what is invalidated

-- nothing is said of an address by changes that do not map it, if nothing was
still_none : (cs : List Change) (f : Says) (x : ℕ) → All (λ c. maps c x ≡ false) cs → f x ≡ None
    → after_changes cs f x ≡ None
still_none [] f x others none = none
still_none (c ∷ cs) f x others none = still_none cs (after_change c f) x (All-tail (λ d. maps d x ≡ false) c cs others)
    (one c (All-head (λ d. maps d x ≡ false) c cs others))
  where
    one : (c : Change) → maps c x ≡ false → after_change c f x ≡ None
    one (Unmap iova len) other = go (is_within iova len x)
      where
        go : (v : Bool) → (if v then None else f x) ≡ None
        go true = refl
        go false = none
    one (Map iova to len permissions) other = rw other none

gone_after : (before after : List Change) (iova len x : ℕ) (f : Says) → is_within iova len x ≡ true
    → All (λ c. maps c x ≡ false) after → after_changes (before ++ Unmap iova len ∷ after) f x ≡ None
gone_after [] after iova len x f within others =
    still_none after (after_change (Unmap iova len) f) x others (rw within refl)
gone_after (c ∷ before) after iova len x f within others =
    gone_after before after iova len x (after_change c f) within others

pub nowhere : (f : Says) (c : BlockConnection) (x : ℕ) → Current f c → x < 2 ^ 64 → f x ≡ None → LeadsNowhere x c
nowhere f c x now below none = record {
  table = elim (now.table x below) [ inl said ↦ said | inr same ↦ same ∙ none ];
  rings = λ t at. go t at (says t x) refl;
  ranges = λ ring q k there used within.
      has_none f k x (used_stands f q (now.queues ring q there) k used) none within;
}
  where
    go : (t : Table) → slice_get c.memory.logged.host.tables 0 ≡ Some t → (o : Option Mapping) → says t x ≡ o
        → says t x ≡ None
    go t at None is = is
    go t at (Some m) is =
        let (k, (ring, q, there, kept), has) = now.rings t at x m below is in
        absurd (has_none f k x (kept_stands f q (now.queues ring q there) k kept) none has.0)

pub gone_now : (f : Says) (before after : List Change) (iova len x : ℕ) (c : BlockConnection)
    → Current (after_changes (before ++ Unmap iova len ∷ after) f) c → is_within iova len x ≡ true → x < 2 ^ 64
    → All (λ change. maps change x ≡ false) after → LeadsNowhere x c
gone_now f before after iova len x c now within below others =
    nowhere (after_changes (before ++ Unmap iova len ∷ after) f) c x now below
    (gone_after before after iova len x f within others)

-- ---- what leads somewhere

abbrev pub TargetLaw : Type 0
TargetLaw = (iova to x : ℕ) (permissions : Permissions) → iova < 2 ^ 64 → iova ≤ x
    → target x (record { difference = difference iova to; permissions = permissions }) ≡ step to (x - iova)

pub rings_lead : TargetLaw → (f : Says) (c : BlockConnection) (t : Table) (x : ℕ) (m : Mapping) → Current f c
    → slice_get c.memory.logged.host.tables 0 ≡ Some t → x < 2 ^ 64 → says t x ≡ Some m
    → LeadsTo f x (target x m) m.permissions
rings_lead law f c t x m now at below is =
    let (k, (ring, q, there, kept), has) = now.rings t at x m below is in
    let stands = kept_stands f q (now.queues ring q there) k kept in
    let (i, inside, same) = at_of k x has.0 in
    let far : x - k.iova ≡ i = omega (arith, same) in
    let to : target x m ≡ step k.base i =
    ap (target x) has.1 ∙ law k.iova k.base x k.access (omega (arith, stands.0.1)) (omega (arith, same))
    ∙ ap (step k.base) far in
    let access : k.access ≡ m.permissions = sym (ap (λ (n : Mapping). n.permissions) has.1) in
    subst (λ (p : Permissions). LeadsTo f x (target x m) p) access
    (subst (λ (y : ℕ). LeadsTo f x y k.access) (sym to) (subst (λ (y : ℕ). LeadsTo f y (step k.base i) k.access) same
    (stands.1 i inside)))

pub pieces_lead : (f : Says) (c : BlockConnection) (ring id : ℕ) (q : BlockQueueState) (a : Asked) (k : Kept) → Current f c
    → slice_get c.backend.queues ring ≡ Some q → slice_get q.asked id ≡ Some (Some a) → Contains a.kept k
    → LeadOn f k.iova k.len k.base k.access
pieces_lead f c ring id q a k now there under among =
    (All-contains (Stands f) a.kept k ((now.queues ring q there).asked id a under).0 among).1

pub all_current : (f : Says) (ks : List Kept) → All (Stands f) ks → All (IsCurrent f) ks
all_current f ks all = All-weaker (Stands f) (IsCurrent f) (λ k stands. stands.1) ks all
