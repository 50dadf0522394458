-- What contracts see of a world over files.
use Rattle.std.specs.Prelude.{◌≡◌, ℕ, Option}
use Rattle.tm_world.specs.declared.world.Side.{Side}
use Rattle.tm_world.specs.declared.world.Part.{Part}
use Rattle.tm_world.specs.Counts.{count_of}
use Rattle.tm_fileworld.specs.Images.{blocks_at, file_at}
use Rattle.tm_fileworld.specs.declared.world.FileWorld.{FileWorld}

-- how many blocks a side has
abbrev pub blocks_of : {R F D : Type 0} → FileWorld R F D → Side → ℕ
blocks_of w = blocks_at w.images

-- the file of a side, if one is open
abbrev pub file_of : {R F D : Type 0} → FileWorld R F D → Side → Option F
file_of w = file_at w.images

-- the file of the script, if one is open
abbrev pub script_of : {R F D : Type 0} → FileWorld R F D → Option F
script_of w = w.script

-- how often each part has failed
abbrev pub faults_of : {R F D : Type 0} → FileWorld R F D → Part → ℕ
faults_of w = count_of w.faults

-- what is attached is as it was
pub record KeepsFiles {R F D : Type 0} (old new : FileWorld R F D) : Type 0 where
  pub blocks : blocks_of new ≡ blocks_of old
  pub files : file_of new ≡ file_of old
  pub script : script_of new ≡ script_of old
