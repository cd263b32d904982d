-- An image that is patched with pages.
use Rattle.std.specs.Prelude.{ℕ, ◌/◌, ◌==◌, if◌then◌else◌, List, length, map, slice_index}
use Rattle.std.specs.List.{list_any}
use Rattle.vm_memory_base.specs.Address.{numbers}

-- an image in which each byte of a listed page was replaced by that byte of now
abbrev pub patched : ℕ → List ℕ → List ℕ → List ℕ → List ℕ
patched size pages now image =
    map (λ x. if list_any (λ page. x / size == page) pages then slice_index now x else slice_index image x)
    (numbers 0 (length image))
