use Rattle.vm_memory.proofs.EffectLemmas.{ImageLaws}
use Rattle.vm_memory.proofs.RoundsLemmas.{WriteLaws, copy_mirrors, kept_from_mirrors, mirrors_from_clean}
use Rattle.vm_memory.proofs.RunLemmas.{run_keeps, unharvested_run_keeps}
use Rattle.vm_memory.specs.Rounds.{bytes_of_block, pages_of_block}
use Rattle.vm_memory.proofs.laws.machine.runs_keep_images.Goals as goal

pub returns : goal.returns
returns c =
    let are_listed = c.dirty_pages_are_listed.ensures.exactly in
    let writes : WriteLaws = record {
      bytes_stay = c.other_bytes_stay.ensures.bytes;
      lengths_stay = c.other_bytes_stay.ensures.lengths;
      named_are_dirty = c.named_pages_are_dirty.ensures;
      blocks_are = c.dirt_stays.ensures.bytes;
      dirty_stay = c.dirt_stays.ensures.pages;
      shapes_stay = c.path_writes_keep_shapes.ensures.bitmaps;
      lent_mark = c.transfers_in_mark_what_they_change.ensures;
    } in
    let laws : ImageLaws = record {
      are_listed = are_listed;
      cleaned_stay = c.cleaned_is_clean.ensures.shape;
      writes = writes;
    } in
    record {
      copy = copy_mirrors are_listed;
      kept = λ block image old cs rs new run tracked short direct mirrors.
          run_keeps laws block image old cs rs new run
          (kept_from_mirrors are_listed block image old.host tracked short mirrors) direct;
      unharvested = λ block image old cs rs new run tracked short direct none mirrors.
          mirrors_from_clean are_listed (pages_of_block block new.host) (bytes_of_block block new.host) image
          (unharvested_run_keeps laws block image old cs rs new run
          (kept_from_mirrors are_listed block image old.host tracked short mirrors) direct none).clean;
    }
