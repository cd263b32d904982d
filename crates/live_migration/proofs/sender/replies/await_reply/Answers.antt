use Rattle.std.proofs.lemmas.Option.{none-some}
use Rattle.live_migration.specs.declared.reply.Reply.TheVariants.{Refused}
use Rattle.live_migration.proofs.sender.replies.await_reply.Goals as goal

pub returns-in_default-decode : goal.returns-in_default-decode
returns-in_default-decode g c = (
  c.in-Some.bytes,
  c.in-Some.ensures.some.0,
  c.in-Some.ensures.some.1,
  λ e. none-some c.args.wanted (c.in_default-decode.ensures.only c.args.wanted e),
  λ r e. none-some (Refused r) (c.in_default-decode.ensures.only (Refused r) e),
)
