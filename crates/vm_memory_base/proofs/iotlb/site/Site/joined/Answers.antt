use Rattle.std.proofs.Common.{◌≡◌, ◌+◌, ◌∷◌, Bool, true, false, ◌&&◌, refl, sym, ◌∙◌}
use Rattle.vm_memory_base.specs.Change.{runs_from}
use Rattle.vm_memory_base.proofs.SiteLemmas.{begun_there, begun_whole, if_left}
use Rattle.vm_memory_base.proofs.iotlb.site.Site.joined.Goals as goal

never : false ≡ true → ⊥
never t = cc

each : (a b : Bool) → (a && b) ≡ true → (a ≡ true) × (b ≡ true)
each true b t = (refl, t)
each false b t = absurd (never t)

pub returns-clause-site : goal.returns-clause-site
returns-clause-site c rs site =
    let left = c.args.self.now.front.run in
    let right = c.args.self.now.back.run in
    let begun = c.joined_to-front.result.0 in
    let same = c.joined_to-front.ensures.same in
    let next = c.joined-joined.ensures.next in
    record {
      order = site.order;
      front = record {
        there = begun_there rs c.args.self.now.start left begun c.joined_to-front.ensures.left same site.front.there;
        whole = λ t. let parts = each c.args.self.now.front.stored c.is_some.result t in
            begun_whole rs c.args.self.now.start left begun same
            (c.joined_to-front.ensures.stays
            (sym c.is_some.ensures ∙ parts.1))
            (site.front.whole parts.0);
      };
      back = record {
        starts = if_left (λ r. r.start ≡ c.args.self.now.end) right c.joined-joined.result.1 next site.back.starts;
        stored = λ t. if_left (λ r. runs_from c.args.self.now.end rs ≡ r ∷ runs_from (c.args.self.now.end + 1) rs) right
            c.joined-joined.result.1 next (site.back.stored t);
        absent = site.back.absent;
      };
      clear = site.clear;
    }
