-- How a slot spells a root.
use Rattle.std.specs.Prelude.{◌≡◌, ℕ, List, [], ◌∷◌, ◌++◌, take, replicate, codes}
use Rattle.tm_codec.specs.Fields.{u32_text, u64_text}
use Rattle.tm_gate.specs.declared.root.Root.{Root}

-- the first eight bytes of each slot
abbrev pub magic : List ℕ
magic = codes "TMIMAGE1"

abbrev pub HasMagic : List ℕ → Type 0
HasMagic slot = take 8 slot ≡ magic

-- the 4,096 bytes of the slot that holds a root
unfoldable pub slot_of : Root → List ℕ
slot_of root = magic ++ root.kind ∷ root.version ∷ 0 ∷ 0 ∷ [] ++ u32_text root.first
    ++ u64_text root.sequence ++ u64_text root.table_len ++ root.tag ++ replicate 4000 0
