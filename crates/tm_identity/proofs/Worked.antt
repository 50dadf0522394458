-- Two backups by hand: /b and /docs/a in the first; before the second only /b changed, from 5 bytes to 2.
use Rattle.std.specs.Prelude.{◌≡◌, ℕ, List, [], ◌∷◌, codes, refl}
use Rattle.tm_tree.specs.declared.attrs.Attrs.{Attrs}
use Rattle.tm_tree.specs.declared.item.Item.TheVariants.{Folder, File}
use Rattle.tm_tree.specs.Copies.{LabelledTree}
use Rattle.tm_identity.specs.Identities.{links}
use Rattle.tm_identity.specs.Sums.{stored_bytes, identity_count, unique_bytes}

module _ (attrs : Attrs) where
  -- the snapshot of the backup `last`, whose /b has these bytes and this label
  abbrev snapshot : ℕ → ℕ → List ℕ → LabelledTree
  snapshot last label bytes =
      ([], record { label = last; item = Folder attrs })
      ∷ (codes "b" ∷ [], record { label = label; item = File attrs label bytes })
      ∷ (codes "docs" ∷ [], record { label = 1; item = Folder attrs })
      ∷ (codes "docs" ∷ codes "a" ∷ [], record { label = 1; item = File attrs 9 (codes "abc") })
      ∷ []

  abbrev first : LabelledTree
  first = snapshot 1 1 (codes "bbbbb")

  abbrev second : LabelledTree
  second = snapshot 2 2 (codes "BB")

  abbrev both : List LabelledTree
  both = first ∷ second ∷ []

  -- the folder is held by both roots, what is in it by the one folder, and each /b by its own root
  docs_links : links both 1 (codes "docs" ∷ []) ≡ 2
  docs_links = refl

  file_links : links both 1 (codes "docs" ∷ codes "a" ∷ []) ≡ 1
  file_links = refl

  old_links : links both 1 (codes "b" ∷ []) ≡ 1
  old_links = refl

  root_links : links both 2 [] ≡ 1
  root_links = refl

  -- 5 and 2 bytes of /b, and 3 of /docs/a, which counts once
  stored : stored_bytes both ≡ 10
  stored = refl

  -- two roots, two files /b, /docs and /docs/a
  identities : identity_count both ≡ 6
  identities = refl

  -- of the second snapshot only its /b stands in no other
  unique : unique_bytes (first ∷ []) second [] ≡ 2
  unique = refl

  shared : unique_bytes (first ∷ []) second (codes "docs" ∷ []) ≡ 0
  shared = refl

  -- two snapshots of one root: none of its bytes is unique
  twice : unique_bytes (first ∷ []) first [] ≡ 0
  twice = refl
