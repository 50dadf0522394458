-- Files and links in records.
use Rattle.std.specs.Prelude.{◌≡◌, ℕ, ◌^◌, ◌<◌, List, ◌++◌}
use Rattle.tm_tree.specs.declared.attrs.Attrs.{Attrs}
use Rattle.tm_tree.specs.declared.node.LeafRow.{LeafRow}
use Rattle.tm_tree.specs.declared.node.LeafRow.TheVariants.{File, Link}
use Rattle.tm_codec.specs.Fields.{u64_text, long_text}
use Rattle.tm_nodes.specs.declared.kind.Kind.{Kind}
use Rattle.tm_nodes.specs.declared.kind.Kind.TheVariants as kind
use Rattle.tm_nodes.specs.Targets.{IsTarget}

-- a file or a link
abbrev pub leaf_kind : LeafRow → Kind
leaf_kind (File attrs stamp size) = kind.File
leaf_kind (Link attrs stamp target) = kind.Link

-- its attributes
abbrev pub leaf_attrs : LeafRow → Attrs
leaf_attrs (File attrs stamp size) = attrs
leaf_attrs (Link attrs stamp target) = attrs

-- what follows the attributes: the stamp, and a link's target
abbrev pub leaf_tail : LeafRow → List ℕ
leaf_tail (File attrs stamp size) = u64_text stamp
leaf_tail (Link attrs stamp target) = u64_text stamp ++ long_text target

-- the rules of what follows the attributes
abbrev pub IsLeafTail : LeafRow → Type 0
IsLeafTail (File attrs stamp size) = stamp < 2 ^ 64
IsLeafTail (Link attrs stamp target) = (stamp < 2 ^ 64) × IsTarget target

-- if it is a file, it has so many bytes
abbrev pub HasSize : ℕ → LeafRow → Type 0
HasSize n (File attrs stamp size) = size ≡ n
HasSize n (Link attrs stamp target) = Unit {0}
