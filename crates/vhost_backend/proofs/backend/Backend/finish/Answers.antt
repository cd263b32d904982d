use Rattle.std.proofs.Common.{◌≡◌, ◌∙◌, length, refl, ap, sym, arith}
use Rattle.vhost_user.specs.Reply.{refused, reply_to}
use Rattle.vhost_backend.specs.Backend.{rebased, released}
use Rattle.vhost_backend.proofs.BackendLemmas.{finished_is, refused_is, refreshed_length, refreshed_next}
use Rattle.vhost_backend.proofs.backend.Backend.finish.Goals as goal

pub loop-ring-init : goal.loop-ring-init
loop-ring-init c = refl

pub refresh-requires : goal.refresh-requires
refresh-requires c =
    let same : length c.loop-ring.self.placings ≡ length c.rebase.new.self.placings =
    ap (λ b. length b.placings) c.loop-ring.invariant ∙ refreshed_length c.loop-ring.ring c.rebase.new.self in
    let items : c.len-ring-end.result ≡ length c.self-in-Begun.inside.placings.items =
    omega (arith, c.len-ring-end.ensures, c.self-in-Begun.inside.placings.ok.0) in
    let count : c.len-ring-end.result ≡ length c.rebase.new.self.placings =
    items ∙ ap (λ b. length b.placings) c.self-in-Begun.view_is in
    rw (same, ← count) c.loop-ring-test.true

pub loop-ring-preserved : goal.loop-ring-preserved
loop-ring-preserved c =
    c.refresh.ensures ∙ rw c.loop-ring.invariant (refreshed_next c.loop-ring.ring c.rebase.new.self)

pub returns-after-loop-ring : goal.returns-after-loop-ring
returns-after-loop-ring c =
    let begun = sym c.replace.ensures.value ∙ c.in-Begun.is in
    let items : c.len-ring-end.result ≡ length c.self-in-Begun.inside.placings.items =
    omega (arith, c.len-ring-end.ensures, c.self-in-Begun.inside.placings.ok.0) in
    let count : c.len-ring-end.result ≡ length c.rebase.new.self.placings =
    items ∙ ap (λ b. length b.placings) c.self-in-Begun.view_is in
    let ends : c.loop-ring.ring ≡ c.len-ring-end.result =
    omega (arith, c.loop-ring-test.false, c.loop-ring.auto.ring-end) in
    let replies = c.reply.ensures
    ∙ ap (λ b. reply_to b.connection c.in-Begun.header c.in-Begun.request) c.self-in-Begun-2.view_is in
    let based = c.if-not-rebase.ensures ∙ ap (λ b. rebased b c.in-Begun.request c.args.end) c.release.ensures
    ∙ ap (λ b. rebased (released b) c.in-Begun.request c.args.end) c.self.view_is in
    rw (← c.self.view_is, begun) (finished_is c.in-Begun.request c.in-Begun.header c.rebase.new.self c.loop-ring.self _
    c.loop-ring.ring c.reply.result based c.loop-ring.invariant (ends ∙ count) replies)

pub returns-then-not-rebase : goal.returns-then-not-rebase
returns-then-not-rebase c =
    let begun = sym c.replace.ensures.value ∙ c.in-Begun.is in
    let replies = c.refuse-reply.ensures ∙ ap (λ b. refused b.connection c.in-Begun.header) c.self-then-not-rebase.view_is in
    let based = c.if-not-rebase.ensures ∙ ap (λ b. rebased b c.in-Begun.request c.args.end) c.release.ensures
    ∙ ap (λ b. rebased (released b) c.in-Begun.request c.args.end) c.self.view_is in
    rw (← c.self.view_is, begun) (refused_is c.in-Begun.request c.in-Begun.header c.rebase.new.self c.hang_up.new.self _
    c.refuse-reply.result based replies c.hang_up.ensures)
