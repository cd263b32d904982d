use Rattle.vm_memory_guest.proofs.TypedLaws.{typed-answers, typed-loads, typed-stores}
use Rattle.vm_memory_guest.proofs.laws.typed.loads_and_stores_are_by_bytes.Goals as goal

pub returns : goal.returns
returns g c = record {
  answers = typed-answers;
  loads = typed-loads;
  stores = λ regions route a size access bytes old new each.
      typed-stores regions route a size access g.B.Bitmap.marks g.B.ExactBitmap.pages bytes old new
      (c.accesses_are_by_bytes.ensures.writes regions route a size access bytes old new each);
}
