-- What undoes a change, and the clock that a list of changes tells.
use Rattle.std.specs.Prelude.{◌≡◌, ℕ, ◌-◌, List, [], ◌∷◌, length, take, drop, Option, Some, None, slice_index_or, slice_set}
use Rattle.std.proofs.Common.{ap, arith}
use Rattle.std.proofs.lemmas.List.{drop_all}
use Rattle.tm_world.specs.Log.{Log, now}
use Rattle.tm_memworld.specs.Site.{SiteView, zero_block}
use Rattle.tm_memworld.specs.Sites.{site_at}
use Rattle.tm_memworld.specs.Contents.{Contents, view, attached_at, with_attached}
use Rattle.tm_memworld.specs.declared.change.Opened.{Opened}
use Rattle.tm_memworld.specs.declared.change.Opened.TheVariants.{Found, Made, Named}
use Rattle.tm_memworld.specs.declared.change.Change.{Change}
use Rattle.tm_memworld.specs.declared.change.Change.TheVariants.{Attached, Started, Wrote, Loosened, Synced, Took, Said}

-- all but the last of a list
abbrev pub front : {X : Type 0} → List X → List X
front xs = take (length xs - 1) xs

-- the site of this number, changed
abbrev pub with_site : ℕ → SiteView → List SiteView → List SiteView
with_site i s sites = slice_set sites i s

-- before a path was opened, at the site that is attached now
abbrev pub closed : Opened → Option ℕ → List SiteView → List SiteView
closed Found at sites = sites
closed Made None sites = sites
closed Made (Some i) sites = with_site i (record (site_at sites i) { count = None }) sites
closed Named at sites = front sites

-- what was there before a change
abbrev pub back : Change → Contents → Contents
back (Attached side was opened) c = with_attached side was (record c { sites = closed opened (attached_at side c) c.sites })
back (Started was position) c = record c { script = was; position = position }
back (Wrote i block time) c = let s = site_at c.sites i in record c {
  sites = with_site i (record s { blocks = slice_set s.blocks block (slice_index_or c.saved (length c.saved - 1) zero_block); times = slice_set s.times block time }) c.sites;
  saved = front c.saved;
}
back (Loosened i block time) c = let s = site_at c.sites i in record c { sites = with_site i (record s { times = slice_set s.times block time }) c.sites }
back (Synced i time) c = record c { sites = with_site i (record (site_at c.sites i) { settled = time }) c.sites }
back (Took n) c = record c { position = c.position - n }
back (Said n) c = record c { said = take (length c.said - n) c.said }

-- what was there before these changes, the first of them first
abbrev pub before : List Change → Contents → Contents
before [] c = c
before (change ∷ rest) c = back change (before rest c)

-- a moment for each change, and one before them
abbrev pub log_in : List Change → Contents → Log
log_in changes c = record { moment = length changes; past = λ k. view (before (drop k changes) c) }

-- the last moment is what is there now
pub now-log_in : (changes : List Change) (c : Contents) → now (log_in changes c) ≡ view c
now-log_in changes c = ap (λ cs. view (before cs c)) (drop_all (length changes) changes (omega arith))
