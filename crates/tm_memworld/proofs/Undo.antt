-- Each change is undone.
use Rattle.std.proofs.Common.{◌≡◌, ℕ, ◌+◌, ◌-◌, ◌<◌, List, [], ◌∷◌, ◌++◌, length, get_or, set, take, Some, None, refl, sym, ◌∙◌, ap, arith}
use Rattle.std.proofs.lemmas.List.{get_or-set_same, set-set, set-get_or, length-append, take_at, get_or_at}
use Rattle.tm_world.specs.declared.world.Side.{Side}
use Rattle.tm_world.specs.declared.world.Side.TheVariants.{Volume, Store}
use Rattle.tm_memworld.specs.declared.change.Change.TheVariants.{Attached, Wrote, Loosened, Synced, Took, Said}
use Rattle.tm_memworld.specs.declared.change.Opened.TheVariants.{Found, Made, Named}
use Rattle.tm_memworld.specs.Site.{SiteView, blank, zero_block}
use Rattle.tm_memworld.specs.Sites.{site_at}
use Rattle.tm_memworld.specs.Contents.{Contents, attached_at, with_attached}
use Rattle.tm_memworld.specs.Change.{front, back}

front-push : {X : Type 0} (xs : List X) (x : X) → front (xs ++ x ∷ []) ≡ xs
front-push xs x = take_at xs (x ∷ []) _ (omega (arith, length-append xs (x ∷ [])))

last-push : {X : Type 0} (xs : List X) (x d : X) → get_or (xs ++ x ∷ []) (length (xs ++ x ∷ []) - 1) d ≡ x
last-push xs x d = get_or_at xs x [] d _ (omega (arith, length-append xs (x ∷ [])))

-- a site that is put back where it was
put_back : (sites : List SiteView) (i : ℕ) (t s : SiteView) → s ≡ site_at sites i → set (set sites i t) i s ≡ sites
put_back sites i t s is = set-set sites i t s ∙ ap (set sites i) is ∙ set-get_or sites i (blank [] 0)

here : (sites : List SiteView) (i : ℕ) (t : SiteView) → i < length sites → site_at (set sites i t) i ≡ t
here sites i t lt = get_or-set_same sites i t (blank [] 0) lt

module _ (c : Contents) (i : ℕ) (s t : SiteView) (lt : i < length c.sites) (is : s ≡ site_at c.sites i) where
  pub undo_write : (block : ℕ) (bytes : List ℕ) (time : ℕ) → t ≡ record s { blocks = set s.blocks block bytes; times = set s.times block time }
      → back (Wrote i block (get_or s.times block 0)) (record c { sites = set c.sites i t; saved = c.saved ++ get_or s.blocks block zero_block ∷ [] }) ≡ c
  undo_write block bytes time put =
      let then : site_at (set c.sites i t) i ≡ record s { blocks = set s.blocks block bytes; times = set s.times block time } = here c.sites i t lt ∙ put in
      let old : SiteView = record s { blocks = set (set s.blocks block bytes) block (get_or s.blocks block zero_block); times = set (set s.times block time) block (get_or s.times block 0) } in
      let was : old ≡ s = λ j. record s {
        blocks = (set-set s.blocks block bytes _ ∙ set-get_or s.blocks block zero_block) j;
        times = (set-set s.times block time _ ∙ set-get_or s.times block 0) j;
      } in
      λ j. record c {
        sites = (ap (λ (u : SiteView). set (set c.sites i t) i (record u {
          blocks = set u.blocks block (get_or (c.saved ++ get_or s.blocks block zero_block ∷ []) (length (c.saved ++ get_or s.blocks block zero_block ∷ []) - 1) zero_block);
          times = set u.times block (get_or s.times block 0);
        })) then
            ∙ ap (λ b. set (set c.sites i t) i (record s { blocks = set (set s.blocks block bytes) block b; times = set (set s.times block time) block (get_or s.times block 0) }))
            (last-push c.saved (get_or s.blocks block zero_block) zero_block)
            ∙ ap (set (set c.sites i t) i) was ∙ put_back c.sites i t s is) j;
        saved = front-push c.saved (get_or s.blocks block zero_block) j;
      }

  pub undo_loosen : (block time : ℕ) → t ≡ record s { times = set s.times block time }
      → back (Loosened i block (get_or s.times block 0)) (record c { sites = set c.sites i t }) ≡ c
  undo_loosen block time put =
      let then : site_at (set c.sites i t) i ≡ record s { times = set s.times block time } = here c.sites i t lt ∙ put in
      let old : SiteView = record s { times = set (set s.times block time) block (get_or s.times block 0) } in
      let was : old ≡ s = λ j. record s { times = (set-set s.times block time _ ∙ set-get_or s.times block 0) j } in
      λ j. record c {
        sites = (ap (λ (u : SiteView). set (set c.sites i t) i (record u { times = set u.times block (get_or s.times block 0) })) then
            ∙ ap (set (set c.sites i t) i) was ∙ put_back c.sites i t s is) j;
      }

  pub undo_sync : (time : ℕ) → t ≡ record s { settled = time } → back (Synced i s.settled) (record c { sites = set c.sites i t }) ≡ c
  undo_sync time put = λ j. record c {
    sites = (ap (λ (u : SiteView). set (set c.sites i t) i (record u { settled = s.settled })) (here c.sites i t lt ∙ put) ∙ put_back c.sites i t s is) j;
  }

  unmade : (n : ℕ) → s.count ≡ None → t ≡ record s { count = Some n } → set (set c.sites i t) i (record (site_at (set c.sites i t) i) { count = None }) ≡ c.sites
  unmade n none put = ap (λ (u : SiteView). set (set c.sites i t) i (record u { count = None })) (here c.sites i t lt ∙ put)
      ∙ ap (λ o. set (set c.sites i t) i (record s { count = o })) (sym none) ∙ put_back c.sites i t s is

  pub undo_made : (side : Side) (n : ℕ) → s.count ≡ None → t ≡ record s { count = Some n }
      → back (Attached side (attached_at side c) Made) (with_attached side (Some i) (record c { sites = set c.sites i t })) ≡ c
  undo_made Volume n none put = λ j. record c { sites = unmade n none put j }
  undo_made Store n none put = λ j. record c { sites = unmade n none put j }

pub undo_found : (side : Side) (i : ℕ) (c : Contents) → back (Attached side (attached_at side c) Found) (with_attached side (Some i) c) ≡ c
undo_found Volume i c = refl
undo_found Store i c = refl

pub undo_named : (side : Side) (t : SiteView) (i : ℕ) (c : Contents) → back (Attached side (attached_at side c) Named) (with_attached side (Some i) (record c { sites = c.sites ++ t ∷ [] })) ≡ c
undo_named Volume t i c = λ j. record c { sites = front-push c.sites t j }
undo_named Store t i c = λ j. record c { sites = front-push c.sites t j }

pub undo_took : (n : ℕ) (c : Contents) → back (Took n) (record c { position = c.position + n }) ≡ c
undo_took n c = let same : (c.position + n) - n ≡ c.position = omega arith in λ j. record c { position = same j }

pub undo_said : (bytes : List ℕ) (c : Contents) → back (Said (length bytes)) (record c { said = c.said ++ bytes }) ≡ c
undo_said bytes c =
    let same : length (c.said ++ bytes) - length bytes ≡ length c.said = omega (arith, length-append c.said bytes) in
    λ j. record c { said = (ap (λ n. take n (c.said ++ bytes)) same ∙ take_at c.said bytes (length c.said) refl) j }
