-- Paths and journal rows: what reading gives.
use Rattle.std.proofs.Common.{◌≡◌, ℕ, ◌^◌, ◌<◌, ◌≤◌, false, leb, List, [], ◌∷◌, ◌++◌, length, Option, Some, None, refl, sym, ap, subst, arith, append_assoc}
use Rattle.std.specs.Prelude.{option_map, unwrap_or, Decides}
use Rattle.std.specs.List.{flat_map, AllByRecursion}
use Rattle.std.specs.List.Sorted.{IsStrictlySortedBy}
use Rattle.std.specs.Ordering.{nat_cmp, is_lt}
use Rattle.std.specs.declared.cmp.Ordering.TheVariants.{Less}
use Rattle.std.proofs.lemmas.Bool.{leb-true, le-leb, ne_eqb}
use Rattle.std.proofs.lemmas.Bool.Decides.{Decides-or, Decides-eqb}
use Rattle.std.proofs.lemmas.Cmp.{nat_cmp_total, nat_list_cmp_total, lists_total}
use Rattle.std.proofs.lemmas.List.{append-nil, length-append, map-id}
use Rattle.tm_codec.proofs.Fields.{length-u8_text, length-u64_text}
use Rattle.std.proofs.lemmas.List.Elements.{All-from_recursion, recursion_from_All, All-weaker}
use Rattle.tm_base.specs.IsName.{IsName}
use Rattle.tm_base.specs.Paths.{Names, path_cmp, is_root}
use Rattle.tm_codec.specs.Fields.{u8_text, u64_text, short_text}
use Rattle.tm_tree.specs.declared.rows.Row.{Row}
use Rattle.tm_nodes.specs.Paths.{path_text, paths_text, IsPath, ArePaths}
use Rattle.tm_nodes.specs.Rows.{row_text, rows_text, AreFlags, IsRow, AreRows}
use Rattle.tm_nodes.specs.Reading.{is_after, path_at, next_path_at, are_flags, row_at, next_row_at}
use Rattle.tm_nodes.specs.Records.{paths_of, rows_of}
use Rattle.tm_nodes.proofs.Formats.{IsReader, Chain, alike, then_reads, only_if_reads, many_reads, Finds, to_end_is, to_end_found}
use Rattle.tm_nodes.proofs.Numbers.{u8_reads, u64_reads}
use Rattle.tm_nodes.proofs.Fields.{name_reads}
use Rattle.tm_nodes.proofs.Orders.{less_from_is_lt, IsAfter, is_after-true, is_after-from, Follows, chain_each, chain_sorted, chain_from}

-- ---- paths

module _ {A : Type 0} (Keeps : A → Type 0) where
  each_from_chain : (before : Option A) (xs : List A) → Chain (λ before. Keeps) before xs → AllByRecursion Keeps xs
  unfolding Chain
  each_from_chain before [] c = tt
  each_from_chain before (x ∷ xs) c = (c.0, each_from_chain (Some x) xs c.1)

  chain_from_each : (before : Option A) (xs : List A) → AllByRecursion Keeps xs → Chain (λ before. Keeps) before xs
  unfolding Chain
  chain_from_each before [] each = tt
  chain_from_each before (x ∷ xs) each = (each.0, chain_from_each (Some x) xs each.1)

pub path_reads : IsReader path_at IsPath path_text
unfolding path_at path_text
path_reads = alike
    (then_reads length u8_reads
    (λ n. then_reads length (only_if_reads (leb n 64) n) (λ count. many_reads {Follows = λ before. IsName} (λ before. name_reads) count None) (λ count xs is kept. kept.0))
    (λ n xs small kept. kept.0.0))
    (λ path kept. record { short = leb-true (length path) 64 kept.1.0.1; names = All-from_recursion IsName path (each_from_chain IsName None path kept.1.1.1) })
    (λ path is. (omega (arith, is.short), ((refl, le-leb (length path) 64 is.short), (refl, chain_from_each IsName None path (recursion_from_All IsName path is.names)))))
    (λ path is. refl)

-- a path that isn't the root
pub record IsBelow (path : Names) : Type 0 where
  pub rules : IsPath path
  pub no_root : is_root path ≡ false

abbrev pub NextPath : Option Names → Names → Type 0
NextPath = Follows path_cmp (λ path. path) IsBelow

never_root : (low path : Names) → path_cmp low path ≡ Less → is_root path ≡ false
never_root [] [] e = cc
never_root (n ∷ ns) [] e = cc
never_root [] (m ∷ ms) e = ne_eqb (length (m ∷ ms)) 0 (λ e. absurd (omega arith))
never_root (n ∷ ns) (m ∷ ms) e = ne_eqb (length (m ∷ ms)) 0 (λ e. absurd (omega arith))

next_to : (before : Option Names) (path : Names) → path_cmp (unwrap_or before []) path ≡ Less → IsAfter path_cmp (option_map (λ p. p) before) path
unfolding IsAfter
next_to None path e = tt
next_to (Some low) path e = e

next_from : (before : Option Names) (path : Names) → is_root path ≡ false → IsAfter path_cmp (option_map (λ p. p) before) path → path_cmp (unwrap_or before []) path ≡ Less
unfolding IsAfter
next_from None [] no_root e = cc
next_from None (m ∷ ms) no_root e = refl
next_from (Some low) path no_root e = e

pub next_path_reads : (before : Option Names) → IsReader (next_path_at before) (NextPath before) path_text
unfolding next_path_at
next_path_reads before =
    let low : Names = unwrap_or before [] in
    alike
    (then_reads (λ x. x) path_reads (λ x. only_if_reads (is_lt (path_cmp low x)) x) (λ a x is kept. kept.0))
    (λ x kept. let less = less_from_is_lt (path_cmp low x) kept.1.1 in record { rules = record { rules = kept.0; no_root = never_root low x less }; after = next_to before x less })
    (λ x is. (is.rules.rules, (refl, ap is_lt (next_from before x is.rules.no_root is.after))))
    (λ x is. append-nil (path_text x))

-- ---- rows

flags_tests : (flags : ℕ) → Decides (are_flags flags) (AreFlags flags)
unfolding are_flags
flags_tests flags = Decides-or _ _ (Decides-eqb flags 0) (Decides-or _ _ (Decides-eqb flags 1) (Decides-or _ _ (Decides-eqb flags 3) (Decides-eqb flags 5)))

flags_small : (flags : ℕ) → AreFlags flags → flags < 2 ^ 8
flags_small flags are = grind arith

row_reads : IsReader row_at IsRow row_text
unfolding row_at row_text
row_reads = alike
    (then_reads (λ row. row.id) u64_reads
    (λ id. then_reads (λ row. row.flags) u8_reads
    (λ flags. then_reads (λ row. row.path) path_reads
    (λ path. only_if_reads (are_flags flags) (record { id = id; path = path; flags = flags }))
    (λ v row is kept. ap (λ (r : Row). r.path) kept.0))
    (λ v row is kept. ap (λ (r : Row). r.flags) kept.1.0))
    (λ v row is kept. ap (λ (r : Row). r.id) kept.1.1.0))
    (λ row kept. record { id = kept.0; flags = (flags_tests row.flags).0 kept.1.1.1.1; path = kept.1.1.0 })
    (λ row is. let test = (flags_tests row.flags).1 is.flags in (is.id, (flags_small row.flags is.flags, (is.path, (refl, test)))))
    (λ row is. simp (append_assoc, append-nil))

abbrev pub NextRow : Option Row → Row → Type 0
NextRow = Follows nat_cmp (λ row. row.id) IsRow

pub next_row_reads : (before : Option Row) → IsReader (next_row_at before) (NextRow before) row_text
unfolding next_row_at
next_row_reads before =
    let low : Option ℕ = option_map (λ x. x.id) before in
    alike
    (then_reads (λ x. x) row_reads (λ x. only_if_reads (is_after nat_cmp low x.id) x) (λ a x is kept. kept.0))
    (λ x kept. record { rules = kept.0; after = is_after-true nat_cmp low x.id kept.1.1 })
    (λ x is. (is.rules, (refl, is_after-from nat_cmp low x.id is.after)))
    (λ x is. append-nil (row_text x))

-- ---- whole lists

path_some : (before : Option Names) (path : Names) → NextPath before path → 1 ≤ length (path_text path)
unfolding path_text
path_some before path is = omega (arith, length-append (u8_text (length path)) (flat_map short_text path), length-u8_text (length path))

paths_to : (paths : List Names) → (length paths ≤ 256) × Chain NextPath None paths → ArePaths paths
paths_to paths kept =
    let total = lists_total nat_list_cmp_total in
    let each = All-from_recursion IsBelow paths (chain_each total (λ p. p) IsBelow None paths kept.1) in
    record {
      few = kept.0;
      each = All-weaker IsBelow IsPath (λ p is. is.rules) paths each;
      no_root = All-weaker IsBelow (λ p. is_root p ≡ false) (λ p is. is.no_root) paths each;
      rising = subst (IsStrictlySortedBy path_cmp) (map-id paths) (chain_sorted total (λ p. p) IsBelow None paths kept.1);
    }

paths_from : (paths : List Names) → ArePaths paths → Chain NextPath None paths
paths_from paths are =
    chain_from (lists_total nat_list_cmp_total) (λ p. p) IsBelow paths
    (λ k d lt. record { rules = are.each k d lt; no_root = are.no_root k d lt })
    (subst (IsStrictlySortedBy path_cmp) (sym (map-id paths)) are.rising)

pub paths_finds : Finds paths_of ArePaths paths_text
unfolding paths_of paths_text
paths_finds = record {
  is = λ bytes paths e. let t = to_end_is next_path_reads path_some 256 bytes paths e in record { rules = paths_to paths (t.0, t.1); spelled = t.2 };
  again = λ bytes paths is. to_end_found next_path_reads path_some 256 bytes paths is.rules.few (paths_from paths is.rules) is.spelled;
}

row_some : (before : Option Row) (row : Row) → NextRow before row → 1 ≤ length (row_text row)
unfolding row_text
row_some before row is =
    omega (arith, length-append (u64_text row.id ++ u8_text row.flags) (path_text row.path), length-append (u64_text row.id) (u8_text row.flags), length-u64_text row.id)

-- no more rows than bytes
fewer_rows : (before : Option Row) (rows : List Row) → Chain NextRow before rows → length rows ≤ length (flat_map row_text rows)
unfolding Chain
fewer_rows before [] c = omega arith
fewer_rows before (row ∷ rows) c =
    omega (arith, fewer_rows (Some row) rows c.1, row_some before row c.0, length-append (row_text row) (flat_map row_text rows))

rows_to : (rows : List Row) → Chain NextRow None rows → AreRows rows
rows_to rows chain = record {
  each = All-from_recursion IsRow rows (chain_each nat_cmp_total (λ row. row.id) IsRow None rows chain);
  rising = chain_sorted nat_cmp_total (λ row. row.id) IsRow None rows chain;
}

rows_from : (rows : List Row) → AreRows rows → Chain NextRow None rows
rows_from rows are = chain_from nat_cmp_total (λ row. row.id) IsRow rows are.each are.rising

pub rows_finds : Finds rows_of AreRows rows_text
unfolding rows_of rows_text
rows_finds = record {
  is = λ bytes rows e. let t = to_end_is next_row_reads row_some (length bytes) bytes rows e in record { rules = rows_to rows t.1; spelled = t.2 };
  again = λ bytes rows is.
      let chain = rows_from rows is.rules in
      to_end_found next_row_reads row_some (length bytes) bytes rows (omega (arith, fewer_rows None rows chain, ap length is.spelled)) chain is.spelled;
}

-- a row takes some bytes
pub row_shorter : (before : Option Row) (bytes after : List ℕ) (row : Row) → next_row_at before bytes ≡ Some (row, after) → length after < length bytes
row_shorter before bytes after row e =
    let t = (next_row_reads before).takes bytes (row, after) e in
    omega (arith, row_some before row t.0, ap length t.1.is, length-append (row_text row) after)
