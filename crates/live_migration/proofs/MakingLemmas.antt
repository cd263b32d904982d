-- Blocks that are made one after the other.
use Rattle.std.proofs.Common.{◌≡◌, ℕ, List, [], ◌∷◌, ◌++◌, replicate, sym, ap, ap₂, ◌∙◌, append_assoc}
use Rattle.std.proofs.lemmas.List.{append-nil, map-append}
use Rattle.vm_memory_guest.specs.Host.{Host, with_block}
use Rattle.live_migration.specs.Receiving.{AreMadeFor, MakesBlocks, zeroed}
use Rattle.live_migration.specs.declared.header.BlockEntry.{BlockEntry}

module _ {B : Type 0} (made : ℕ → B → Type 0) where
  made_for_more : (es : List BlockEntry) (e : BlockEntry) (bs : List B) (b : B) → AreMadeFor made es bs → made e.len b
      → AreMadeFor made (es ++ e ∷ []) (bs ++ b ∷ [])
  made_for_more [] e [] b are is = (is, tt)
  made_for_more [] e (x ∷ xs) b are is = absurd are
  made_for_more (y ∷ ys) e [] b are is = absurd are
  made_for_more (y ∷ ys) e (x ∷ xs) b are is = (are.0, made_for_more ys e xs b are.1 is)

  -- no block yet
  pub none_made : (host : Host B) → MakesBlocks made [] host host
  none_made host = record {
    bitmaps = [];
    made_for = tt;
    is = ap₂ (λ (blocks : List (List ℕ)) (bitmaps : List B). record host { blocks = blocks; bitmaps = bitmaps })
        (sym (append-nil host.blocks)) (sym (append-nil host.bitmaps));
  }

  -- one block more
  pub made_more : (es : List BlockEntry) (e : BlockEntry) (b : B) (old mid new : Host B) → MakesBlocks made es old mid
      → made e.len b → new ≡ with_block mid e.len b → MakesBlocks made (es ++ e ∷ []) old new
  made_more es e b old mid new m is made_is = record {
    bitmaps = m.bitmaps ++ b ∷ [];
    made_for = made_for_more es e m.bitmaps b m.made_for is;
    is = made_is ∙ ap (λ (h : Host B). with_block h e.len b) m.is
        ∙ ap₂ (λ (blocks : List (List ℕ)) (bitmaps : List B). record old { blocks = blocks; bitmaps = bitmaps })
        (append_assoc old.blocks (zeroed es) (replicate e.len 0 ∷ [])
        ∙ ap (λ (bs : List (List ℕ)). old.blocks ++ bs)
        (sym (map-append (λ (x : BlockEntry). replicate x.len 0) es (e ∷ []))))
        (append_assoc old.bitmaps m.bitmaps (b ∷ []));
  }
