-- What contracts see of a `BaseSlice`.
use Rattle.std.specs.Prelude.{ℕ}
use Rattle.vm_memory_base.specs.declared.bitmap.slice.BaseSlice.{BaseSlice}

-- what lends the bitmap
abbrev pub inner_of : {P : Type 0} → BaseSlice P → P
inner_of s = s.inner

-- the bitmap's offset at which the slice begins
abbrev pub base_of : {P : Type 0} → BaseSlice P → ℕ
base_of s = s.base
