-- Bytes at the addresses of a text, each address by itself.
use Rattle.std.specs.Prelude.{◌≡◌, ℕ, ◌-◌, ◌<◌, ◌≤◌, Bool, true, List, [], ◌∷◌, length, take, drop, sum_by, MatchBool}
use Rattle.vm_memory_base.specs.Table.{Table}
use Rattle.vm_memory_base.specs.declared.iotlb.Permissions.{Permissions}
use Rattle.vm_memory_base.specs.declared.iotlb.Permissions.TheVariants.{Write}
use Rattle.vm_memory_guest.specs.Access.{Reached, meets, onto}
use Rattle.vm_memory_guest.specs.Dirt.{path_cells}
use Rattle.vm_memory_guest.specs.Host.{Host, bytes_at}
use Rattle.vm_memory_guest.specs.Memory.{Memory, route}
use Rattle.vm_memory_guest.specs.Window.{Window, Writes}
use Rattle.vm_memory_device.specs.Chain.{AreWindowsOf, Entry, MayWantAt, text_path}

module _ (m : Memory) (tables : List Table) where
  -- the bytes that the addresses of a text lead to, up to the first that leads to none
  unfoldable pub reached : List Entry → List Reached
  reached [] = []
  reached (e ∷ es) = onto (meets m.regions (route m tables) e.address 0) (reached es)

module _ (m : Memory) (tables : List Table) (access : Permissions) where
  -- a call for at most `most` addresses of a text reaches none. The access with which it begins is refused, or its
  -- first address leads to no byte. Or an allocation failed: an IOMMU is on, and translating the access may allocate
  pub record Stops (es : List Entry) (most : ℕ) (wanted : Bool) : Type 0 where
    pub some : 0 < length (take most es)
    pub why : MatchBool wanted (MayWantAt m tables access (take most es) 0)
        (text_path m.regions (route m tables) access true (take most es) ≡ [])

  -- calls for the first so many addresses of a text end after k of them, for such a reason
  abbrev pub StopsAt : List Entry → ℕ → Bool → ℕ → Type 0
  StopsAt es count wanted k = (k < count) × Stops (drop k es) (count - k) wanted

  -- they end somewhere
  abbrev pub StopsWithin : List Entry → ℕ → Bool → Type 0
  StopsWithin es count wanted = (k : ℕ) × StopsAt es count wanted k

  -- calls over a text, one after the other, each of at most so many addresses, of which it moves so many, are allowed
  -- to access these
  abbrev pub AreAllowed : List (ℕ × ℕ) → List Entry → Type 0
  AreAllowed [] es = Unit {0}
  AreAllowed ((most, count) ∷ calls) es =
      (count ≤ length (text_path m.regions (route m tables) access true (take most es)))
      × AreAllowed calls (drop count es)

  -- the first n addresses of a text are accessed by calls that are allowed to
  pub record Accessed (es : List Entry) (n : ℕ) : Type 0 where
    pub calls : List (ℕ × ℕ)
    pub count : sum_by (λ c. c.1) calls ≡ n
    pub allowed : AreAllowed calls es

module _ {B : Type 0} (m : Memory) (host : Host B) (es : List Entry) where
  -- the bytes at the first n addresses of a text
  abbrev pub text_bytes : ℕ → List ℕ
  text_bytes n = bytes_at host.blocks (path_cells (take n (reached m host.tables es)))

-- these bytes went to the first addresses of a text, by calls that are allowed to write there, and marked windows that
-- have just these bytes. Nothing else changed
pub record WritesAt {B : Type 0} (marks : B → ℕ → ℕ → B → Type 0) (m : Memory) (es : List Entry) (bytes : List ℕ)
    (old new : Host B) : Type 0 where
  pub windows : List Window
  pub within : length bytes ≤ length (reached m old.tables es)
  pub access : Accessed m old.tables Write es (length bytes)
  pub placed : AreWindowsOf (take (length bytes) (reached m old.tables es)) windows
  pub written : Writes marks windows bytes old new
