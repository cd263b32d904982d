use Rattle.std.proofs.Common.{◌∙◌, inr}
use Rattle.std.proofs.lemmas.Result.{err_from_is_err_and}
use Rattle.linux_loader.proofs.PlanLemmas.{listed, named_all, named_no_entry, named_no_pvh, named_no_segments, named_none, not_listed}
use Rattle.linux_loader.proofs.elf.named.Goals as goal

pub returns-then-header-eq0-clause-named : goal.returns-then-header-eq0-clause-named
returns-then-header-eq0-clause-named g c = λ all known.
    (known, λ sized. named_none all c.args.kernel_offset c.args.header.now c.if-header-eq0.true)

pub returns-in_err-table-clause-named : goal.returns-in_err-table-clause-named
returns-in_err-table-clause-named g c = λ all known.
    let h = c.in_err-table.ensures all known in
    let p = err_from_is_err_and c.from_residual.result c.from_residual.ensures.1 in
    let fits = c.requires in
    (h.0, λ sized. rw (p.1, p.2) (inr (not_listed _ _ (h.1 (rw sized at fits)))))

pub returns-in_err-segments-clause-named : goal.returns-in_err-segments-clause-named
returns-in_err-segments-clause-named g c = λ all known.
    let h = c.in_ok-table.ensures all known in
    let p = err_from_is_err_and c.from_residual-in_err-segments.result c.from_residual-in_err-segments.ensures.1 in
    let fits = c.requires in (
      h.0,
      λ sized. rw (p.1, p.2) (named_no_segments all c.args.kernel_offset c.args.header.now c.args.size
          c.as_slice-headers.result.now sized (c.as_slice-headers.ensures.value
          ∙ listed _ c.in_ok-table.table (h.1 (rw sized at fits))) _
          c.in_err-segments.ensures.listed),
    )

pub returns-in_err-entry-clause-named : goal.returns-in_err-entry-clause-named
returns-in_err-entry-clause-named g c = λ all known.
    let h = c.in_ok-table.ensures all known in
    let p = err_from_is_err_and c.from_residual-in_err-entry.result c.from_residual-in_err-entry.ensures.1 in
    let fits = c.requires in (
      h.0,
      λ sized. rw (p.1, p.2) (named_no_entry all c.args.kernel_offset c.args.header.now c.args.size
          c.as_slice-headers.result.now sized (c.as_slice-headers.ensures.value
          ∙ listed _ c.in_ok-table.table (h.1 (rw sized at fits)))
          c.in_ok-segments.segments c.in_ok-segments.ensures.listed _ c.in_err-entry.ensures),
    )

pub returns-in_err-pvh-clause-named : goal.returns-in_err-pvh-clause-named
returns-in_err-pvh-clause-named g c = λ all known.
    let h = c.in_ok-table.ensures all known in
    let v = c.in_err-pvh.ensures all h.0 in
    let p = err_from_is_err_and c.from_residual-in_err-pvh.result c.from_residual-in_err-pvh.ensures.1 in
    let fits = c.requires in (
      v.0,
      λ sized. rw (p.1, p.2) (named_no_pvh all c.args.kernel_offset c.args.header.now c.args.size
          c.as_slice-headers.result.now sized (c.as_slice-headers.ensures.value
          ∙ listed _ c.in_ok-table.table (h.1 (rw sized at fits)))
          c.in_ok-segments.segments c.in_ok-segments.ensures.listed c.in_ok-entry.entry c.in_ok-entry.ensures _
          (v.1 sized)),
    )

pub returns-clause-named : goal.returns-clause-named
returns-clause-named g c = λ all known.
    let h = c.in_ok-table.ensures all known in
    let v = c.in_ok-pvh.ensures all h.0 in
    let fits = c.requires in (
      v.0,
      λ sized. named_all all c.args.kernel_offset c.args.header.now c.args.size
          c.as_slice-headers.result.now sized (c.as_slice-headers.ensures.value
          ∙ listed _ c.in_ok-table.table (h.1 (rw sized at fits)))
          c.in_ok-segments.segments c.in_ok-segments.ensures.listed c.in_ok-entry.entry c.in_ok-entry.ensures
          c.in_ok-pvh.pvh c.plan_of.result (v.1 sized) c.plan_of.ensures,
    )
