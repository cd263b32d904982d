use Rattle.std.proofs.Common.{◌≡◌, ◌-◌, arith, drop, length, length-drop, take}
use Rattle.std.proofs.lemmas.List.{take_all}
use Rattle.vhost_backend.proofs.ConnectionLemmas.{reply_is}
use Rattle.vhost_backend.proofs.block_connection.whole_reply.Goals as goal

pub returns : goal.returns
returns c =
    let m = c.args.message.now in
    let left = length-drop 12 m in
    let whole : take (length m - 12) (drop 12 m) ≡ drop 12 m = take_all (length m - 12) (drop 12 m) (omega arith) in
    reply_is m _ c.at_front.result c.decode.result c.at_front.ensures whole c.decode.ensures
