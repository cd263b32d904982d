use Rattle.std.proofs.Common.{ℕ, ◌<◌, List, [], ◌∷◌, take, length, get_or, sym, ap, ◌∙◌, arith}
use Rattle.std.proofs.lemmas.List.{take_more}
use Rattle.vm_memory_guest.specs.Patch.{patched}
use Rattle.vm_memory.proofs.PatchLemmas.{patched-none, patched-more}
use Rattle.vm_memory.proofs.machine.rounds.copy_pages.Goals as goal

pub loop-page-init : goal.loop-page-init
loop-page-init c = sym (patched-none c.args.page_size c.args.block.now c.args.image.now)

pub loop-page-preserved : goal.loop-page-preserved
loop-page-preserved c =
    let size = c.args.page_size in
    let block = c.args.block.now in
    let image = c.args.image.now in
    let pages = c.args.pages.now in
    let i = c.loop-page.page-index in
    let page = get_or pages i 0 in
    let within : i < length pages = omega arith in
    c.copy_page.ensures
    ∙ ap (λ (a : List ℕ). patched size (page ∷ []) block a) c.loop-page.invariant
    ∙ sym (patched-more size page (take i pages) block image)
    ∙ ap (λ (ps : List ℕ). patched size ps block image) (sym (take_more pages i 0 within))
