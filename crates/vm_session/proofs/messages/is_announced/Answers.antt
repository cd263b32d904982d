use Rattle.std.proofs.Common.{◌∙◌, ap, drop, is_some, sym, ℕ, List}
use Rattle.vhost_message.specs.Regions.{guest_of}
use Rattle.vhost_message.specs.declared.iotlb.IotlbMessage.{IotlbMessage}
use Rattle.vm_session.specs.Messages.{is_announced, regions_in}
use Rattle.vm_session.proofs.messages.is_announced.Goals as goal

pub returns-in-Update : goal.returns-in-Update
returns-in-Update c =
    let m = c.in-Update in
    c.any_has_range.ensures
    ∙ ap (λ (rows : List ℕ). is_some (guest_of (regions_in rows) m.user_address m.size)) c.split_at.ensures.back
    ∙ sym (ap (λ (x : IotlbMessage). is_announced (regions_in (drop 32 c.args.input.now)) x) m.is)
