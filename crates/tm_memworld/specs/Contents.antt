-- All that is in memory at one moment, and what is outside then.
use Rattle.std.specs.Prelude.{ℕ, List, Option, Some}
use Rattle.std.specs.Option.{option_map}
use Rattle.tm_world.specs.Outside.{Outside}
use Rattle.tm_world.specs.declared.world.Side.{Side}
use Rattle.tm_world.specs.declared.world.Side.TheVariants.{Volume, Store}
use Rattle.tm_memworld.specs.Site.{SiteView}
use Rattle.tm_memworld.specs.Sites.{stands_in, path_at}
use Rattle.tm_memworld.specs.Script.{ScriptView, scripts_in, left_in}

pub record Contents : Type 0 where
  pub sites : List SiteView
  -- the sites that are attached
  pub volume : Option ℕ
  pub store : Option ℕ
  pub scripts : List ScriptView
  -- the script that is attached, and how many of its bytes were taken
  pub script : Option ℕ
  pub position : ℕ
  pub said : List ℕ
  -- the bytes that writes replaced, in the order of the writes
  pub saved : List (List ℕ)

abbrev pub view : Contents → Outside
view c = record {
  stands = stands_in c.sites;
  scripts = scripts_in c.scripts;
  volume = option_map (path_at c.sites) c.volume;
  store = option_map (path_at c.sites) c.store;
  unread = left_in c.scripts c.script c.position;
  said = c.said;
}

-- the site that is attached at a side
abbrev pub attached_at : Side → Contents → Option ℕ
attached_at Volume c = c.volume
attached_at Store c = c.store

-- another site attached at a side
abbrev pub with_attached : Side → Option ℕ → Contents → Contents
with_attached Volume site c = record c { volume = site }
with_attached Store site c = record c { store = site }

-- where a side is attached after one is, at this site
abbrev pub attached_after : Side → Side → ℕ → Option ℕ → Option ℕ
attached_after Volume Volume site was = Some site
attached_after Volume Store site was = was
attached_after Store Volume site was = was
attached_after Store Store site was = Some site
