-- Bytes in memory as an image: the bytes, and the place of the one that is read next.
use Rattle.std.specs.Prelude.{ℕ, List}
use Rattle.std.specs.Io.Cursor.{cursor_inner, cursor_position}
use Rattle.linux_loader.specs.declared.image.ImageBytes.{ImageBytes}

abbrev pub bytes_of : ImageBytes → List ℕ
bytes_of s = (cursor_inner s.cursor).now

abbrev pub place_of : ImageBytes → ℕ
place_of s = cursor_position s.cursor
