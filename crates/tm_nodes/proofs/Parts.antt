-- Attributes, names and the parts of records: what reading gives.
use Rattle.std.proofs.Common.{ℕ, ◌≤◌, leb, List, ◌++◌, length, Option, None, refl, ap, arith, append_assoc, All}
use Rattle.std.specs.Prelude.{option_map}
use Rattle.std.specs.List.{flat_map}
use Rattle.std.specs.Map.{keys_of}
use Rattle.std.specs.List.Sorted.{IsStrictlySortedBy}
use Rattle.std.proofs.lemmas.Bool.{leb-true, le-leb}
use Rattle.std.proofs.lemmas.Cmp.{nat_list_cmp_total}
use Rattle.std.proofs.lemmas.List.{append-nil}
use Rattle.std.proofs.lemmas.List.Elements.{All-from_recursion}
use Rattle.tm_base.specs.Paths.{name_cmp}
use Rattle.tm_codec.specs.Fields.{u8_text, short_text, long_text}
use Rattle.tm_tree.specs.declared.attrs.Attrs.{Attrs}
use Rattle.tm_tree.specs.Extras.{Values}
use Rattle.tm_nodes.specs.Attrs.{extra_text, attrs_text, IsExtra, IsAttrs}
use Rattle.tm_nodes.specs.Reading.{is_after, extra_at, next_extra_at, extras_at, attrs_at}
use Rattle.tm_nodes.proofs.Formats.{IsReader, alike, then_reads, only_if_reads, many_reads}
use Rattle.tm_nodes.proofs.Numbers.{u8_reads, u16_reads, u32_reads}
use Rattle.tm_nodes.proofs.Fields.{long_reads, name_reads, moment_reads}
use Rattle.tm_nodes.proofs.Orders.{is_after-true, is_after-from, Follows, chain_each, chain_sorted, chain_from}

pub extra_reads : IsReader extra_at IsExtra extra_text
unfolding extra_at extra_text
extra_reads = alike
    (then_reads (λ x. x.0) name_reads
    (λ name. then_reads (λ x. x.1) long_reads (λ value. only_if_reads (leb (length value) 4096) (name, value)) (λ value x small kept. ap (λ (y : List ℕ × List ℕ). y.1) kept.0))
    (λ name x is kept. ap (λ (y : List ℕ × List ℕ). y.0) kept.1.0))
    (λ x kept. record { name = kept.0; value = leb-true (length x.1) 4096 kept.1.1.1 })
    (λ x is. (is.name, (omega (arith, is.value), (refl, le-leb (length x.1) 4096 is.value))))
    (λ x is. ap (λ t. short_text x.0 ++ t) (append-nil (long_text x.1)))

abbrev NextExtra : Option (List ℕ × List ℕ) → List ℕ × List ℕ → Type 0
NextExtra = Follows name_cmp (λ x. x.0) IsExtra

pub next_extra_reads : (before : Option (List ℕ × List ℕ)) → IsReader (next_extra_at before) (NextExtra before) extra_text
unfolding next_extra_at
next_extra_reads before =
    let low : Option (List ℕ) = option_map (λ x. x.0) before in
    alike
    (then_reads (λ x. x) extra_reads (λ x. only_if_reads (is_after name_cmp low x.0) x) (λ a x is kept. kept.0))
    (λ x kept. record { rules = kept.0; after = is_after-true name_cmp low x.0 kept.1.1 })
    (λ x is. (is.rules, (refl, is_after-from name_cmp low x.0 is.after)))
    (λ x is. append-nil (extra_text x))

record AreExtras (extras : Values) : Type 0 where
  pub few : length extras ≤ 16
  pub each : All IsExtra extras
  pub rising : IsStrictlySortedBy name_cmp (keys_of extras)

abbrev extras_text : Values → List ℕ
extras_text extras = u8_text (length extras) ++ flat_map extra_text extras

extras_reads : IsReader extras_at AreExtras extras_text
unfolding extras_at
extras_reads = alike
    (then_reads length u8_reads
    (λ n. then_reads length (only_if_reads (leb n 16) n) (λ count. many_reads next_extra_reads count None) (λ count xs is kept. kept.0))
    (λ n xs small kept. kept.0.0))
    (λ xs kept. record {
      few = leb-true (length xs) 16 kept.1.0.1;
      each = All-from_recursion IsExtra xs (chain_each nat_list_cmp_total (λ x. x.0) IsExtra None xs kept.1.1.1);
      rising = chain_sorted nat_list_cmp_total (λ x. x.0) IsExtra None xs kept.1.1.1;
    })
    (λ xs is. (omega (arith, is.few), ((refl, le-leb (length xs) 16 is.few), (refl, chain_from nat_list_cmp_total (λ x. x.0) IsExtra xs is.each is.rising))))
    (λ xs is. refl)

pub attrs_reads : IsReader attrs_at IsAttrs attrs_text
unfolding attrs_at attrs_text
attrs_reads = alike
    (then_reads (λ a. a.mode) u16_reads
    (λ mode. then_reads (λ a. a.uid) u32_reads
    (λ uid. then_reads (λ a. a.gid) u32_reads
    (λ gid. then_reads (λ a. a.modified) moment_reads
    (λ modified. then_reads (λ a. a.extra) extras_reads
    (λ extra. only_if_reads (leb mode 4095) (record { mode = mode; uid = uid; gid = gid; modified = modified; extra = extra }))
    (λ v a is kept. ap (λ (b : Attrs). b.extra) kept.0))
    (λ v a is kept. ap (λ (b : Attrs). b.modified) kept.1.0))
    (λ v a is kept. ap (λ (b : Attrs). b.gid) kept.1.1.0))
    (λ v a is kept. ap (λ (b : Attrs). b.uid) kept.1.1.1.0))
    (λ v a is kept. ap (λ (b : Attrs). b.mode) kept.1.1.1.1.0))
    (λ a kept. let extras = kept.1.1.1.1.0 in
    record { mode = leb-true a.mode 4095 kept.1.1.1.1.1.1; uid = kept.1.0; gid = kept.1.1.0; modified = kept.1.1.1.0; few = extras.few; each = extras.each; rising = extras.rising })
    (λ a is. (omega (arith, is.mode), (is.uid, (is.gid, (is.modified, (record { few = is.few; each = is.each; rising = is.rising }, (refl, le-leb a.mode 4095 is.mode)))))))
    (λ a is. simp (append_assoc, append-nil))
