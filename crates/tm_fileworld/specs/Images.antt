-- The two images.
use Rattle.std.specs.Prelude.{ℕ, Option, Some, None}
use Rattle.tm_world.specs.declared.world.Side.{Side}
use Rattle.tm_world.specs.declared.world.Side.TheVariants.{Volume, Store}
use Rattle.tm_fileworld.specs.declared.image.Image.{Image}
use Rattle.tm_fileworld.specs.declared.images.Images.{Images}

abbrev pub image_at : {F : Type 0} → Images F → Side → Option (Image F)
image_at images Volume = images.volume
image_at images Store = images.store

abbrev pub blocks_of_image : {F : Type 0} → Option (Image F) → ℕ
blocks_of_image None = 0
blocks_of_image (Some image) = image.blocks

abbrev pub file_of_image : {F : Type 0} → Option (Image F) → Option F
file_of_image None = None
file_of_image (Some image) = Some image.file

-- how many blocks a side has
abbrev pub blocks_at : {F : Type 0} → Images F → Side → ℕ
blocks_at images side = blocks_of_image (image_at images side)

-- the file of a side
abbrev pub file_at : {F : Type 0} → Images F → Side → Option F
file_at images side = file_of_image (image_at images side)
