use Rattle.std.proofs.Common.{refl}
use Rattle.linux_loader.proofs.BytesLemmas.{all_given}
use Rattle.linux_loader.proofs.laws.loaded_bytes_are_the_images.Goals as goal

pub returns : goal.returns
returns g c m segments all image after old new loads known enough =
    let f = g.F.ReadVolatile in
    all_given g.B.Bitmap.marks m g.F.KernelImage.bytes f.source f.reads f.known_left g.met.F.KernelImage.reads_keep all
    segments (image, old) (after, new) old refl known enough loads
