use Rattle.std.proofs.Common.{◌≡◌, Err, refl}
use Rattle.std.proofs.lemmas.Result.{err_from_is_err_and}
use Rattle.live_migration.specs.declared.header.BlockEntry.{BlockEntry}
use Rattle.live_migration.proofs.HeaderLemmas.{all_left, header_again, header_many, is_refused}
use Rattle.live_migration.proofs.HeaderLoop.{passed_all, passes, refuses}
use Rattle.live_migration.proofs.header.check_header.Goals as goal

abbrev none : BlockEntry
none = record { len = 0; page_size = 0; address = 0 }

pub returns-then-entries-clause-same : goal.returns-then-entries-clause-same
returns-then-entries-clause-same c = λ digests fits.
    header_many c.args.limit digests c.args.entries.now c.if-entries.true fits

pub loop-entry-init : goal.loop-entry-init
loop-entry-init c = all_left c.args.limit c.args.entries.now

pub loop-entry-preserved : goal.loop-entry-preserved
loop-entry-preserved c =
    let l = c.loop-entry in
    passes c.args.limit c.args.entries.now l.entry-index l.from l.left none c.loop-entry-test.true l.invariant
    c.in_ok-len.field-0 c.in_ok-len.ensures.value

pub returns-in_err-len : goal.returns-in_err-len
returns-in_err-len c =
    let l = c.loop-entry in
    let p = err_from_is_err_and c.from_residual.result c.from_residual.ensures.1 in
    let f = c.in_err-len.field-0.0 in
    let told = c.in_err-len.ensures in
    let h = refuses c.args.limit c.args.entries.now l.entry-index l.from l.left none c.loop-entry-test.true l.invariant f
    told.fields told.value in
    let is : c.from_residual.result ≡ Err f = rw (p.1, p.2) refl in
    let both = is_refused c.args.limit c.args.entries.now f c.from_residual.result is c.if-entries.false h in
    record { accepted = both.0; same = λ digests fits. both.1 digests }

pub returns-clause-accepted : goal.returns-clause-accepted
returns-clause-accepted c = (
  λ ok. (
    c.if-entries.false,
    passed_all c.args.limit c.args.entries.now c.loop-entry.entry-index c.loop-entry.from
        c.loop-entry.left c.loop-entry-test.false c.loop-entry.invariant,
  ),
  λ is. refl,
)

pub returns-clause-same : goal.returns-clause-same
returns-clause-same c = λ digests fits.
    header_again c.args.limit digests c.args.entries.now (
      c.if-entries.false,
      passed_all c.args.limit c.args.entries.now
          c.loop-entry.entry-index c.loop-entry.from c.loop-entry.left c.loop-entry-test.false c.loop-entry.invariant,
    )
