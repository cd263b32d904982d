use Rattle.linux_loader.proofs.KeepLemmas.{all_keeps}
use Rattle.linux_loader.proofs.laws.loads_keep_what_no_segment_names.Goals as goal

pub returns : goal.returns
returns g c m segments image after old new answer cell loads out =
    all_keeps g.B.Bitmap.marks cell m g.F.KernelImage.bytes g.F.ReadVolatile.source g.F.ReadVolatile.reads
    g.F.ReadVolatile.known_left segments (image, old) answer (after, new) loads out
