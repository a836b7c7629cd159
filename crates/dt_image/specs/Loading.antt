use Rattle.std.specs.Prelude.{ℕ, List, length, nat_le, if◌then◌else◌, Result, Ok, Err}
use Rattle.dt_record.specs.declared.limits.TheConstants.{IMAGE_LIMIT}
use Rattle.dt_source.specs.declared.whole.ReadRefusal.{ReadRefusal}
use Rattle.dt_source.specs.declared.whole.ReadRefusal.TheVariants as read
use Rattle.dt_image.specs.declared.images.ImageRefusal.{ImageRefusal}
use Rattle.dt_image.specs.declared.images.ImageRefusal.TheVariants.{TooLong, ReadFault, OutOfMemory}

-- the image of these bytes, of which there may be 16,777,216 (this project's own limit)
abbrev pub loaded : List ℕ → Result (List ℕ) ImageRefusal
loaded bytes = if nat_le (length bytes) IMAGE_LIMIT then Ok bytes else Err TooLong

-- why there is no image, where a source was not read to its end
abbrev pub image_refusal : ReadRefusal → ImageRefusal
image_refusal read.TooLong = TooLong
image_refusal read.ReadFault = ReadFault
image_refusal read.OutOfMemory = OutOfMemory
