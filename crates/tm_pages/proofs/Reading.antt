-- The directory is read, entry by entry, and then the pages.
use Rattle.std.proofs.Common.{◌≡◌, ℕ, ◌+◌, ◌-◌, ◌*◌, ◌/◌, ◌%◌, ◌^◌, ◌<◌, ◌≤◌, List, [], ◌∷◌, ◌++◌, length, get_or, take, drop, refl, sym, ◌∙◌, ap, subst, arith, ⊎_elim, length-append, append_assoc, append-nil}
use Rattle.std.specs.List.{flat_map, sum}
use Rattle.std.proofs.Math.ListN.{set}
use Rattle.std.proofs.lemmas.List.{map_push, length-map, length-take, get_or-map, get_or_push, get_or_append_left, take_more, nil_from_length, drop_all}
use Rattle.std.proofs.lemmas.List.Elements.{All-nil, All-push, All-get_or}
use Rattle.std.proofs.lemmas.List.Concat.{flat_map-append}
use Rattle.std.proofs.lemmas.List.Sums.{sum_by-append}
use Rattle.std.proofs.lemmas.Bool.{cases_lt, cases_eq}
use Rattle.tm_blockmap.specs.Marks.{AreMarks}
use Rattle.tm_blockmap.specs.Counts.{times}
use Rattle.tm_blockmap.proofs.Counting.{times-push, take_mark, hit, one_same, one_other}
use Rattle.tm_codec.specs.Fields.{u16_text, u32_text}
use Rattle.tm_codec.specs.Places.{IsTextAt}
use Rattle.tm_codec.proofs.Fields.{length-u16_text, length-u32_text, apart-u32, apart-u16}
use Rattle.tm_pages.specs.declared.page.Page.{Page}
use Rattle.tm_pages.specs.Paged.{IsPaged, lengths, blocks_of, text_on}
use Rattle.tm_pages.specs.Directory.{entry_text, directory_text, IsDirectory}
use Rattle.tm_pages.proofs.Paging.{join_paged, no_pages, pair_at}
use Rattle.tm_pages.proofs.Texts.{text-append}

pub length-entry : (p : Page) → length (entry_text p) ≡ 6
unfolding entry_text
length-entry p = omega (arith, length-append (u32_text p.block) (u16_text p.length), length-u32_text p.block, length-u16_text p.length)

-- an entry stands where its two fields do
pub entry_stands : (p : Page) (at : ℕ) (directory : List ℕ) → IsTextAt (u32_text p.block) at directory → IsTextAt (u16_text p.length) (at + 4) directory → IsTextAt (entry_text p) at directory
unfolding entry_text
entry_stands p at directory block long =
    let front : List ℕ = u32_text p.block in
    let part : List ℕ = u16_text p.length in
    let four : at + length front ≡ at + 4 = omega (arith, length-u32_text p.block) in
    let end : at + 4 + length part ≡ at + length (front ++ part) = omega (arith, length-append front part, length-u32_text p.block) in
    block ∙ ap (λ i. front ++ drop i directory) four ∙ ap (λ t. front ++ t) long ∙ sym (append_assoc front part (drop (at + 4 + length part) directory)) ∙ ap (λ i. front ++ part ++ drop i directory) end

-- two entries that stand at one place are one
pub one_entry : (p q : Page) (at : ℕ) (directory : List ℕ) → p.block < 2 ^ 32 → p.length < 2 ^ 16 → q.block < 2 ^ 32 → q.length < 2 ^ 16 → IsTextAt (entry_text p) at directory → IsTextAt (entry_text q) at directory → (p.block ≡ q.block) × (p.length ≡ q.length)
unfolding entry_text
one_entry p q at directory small_p short_p small_q short_q stands_p stands_q =
    let x : List ℕ = drop (at + length (entry_text p)) directory in
    let y : List ℕ = drop (at + length (entry_text q)) directory in
    let both : u32_text p.block ++ (u16_text p.length ++ x) ≡ u32_text q.block ++ (u16_text q.length ++ y) =
    sym (append_assoc (u32_text p.block) (u16_text p.length) x) ∙ sym stands_p ∙ stands_q ∙ append_assoc (u32_text q.block) (u16_text q.length) y in
    let first = apart-u32 p.block q.block (u16_text p.length ++ x) (u16_text q.length ++ y) small_p small_q both in
    (first.0, (apart-u16 p.length q.length x y short_p short_q first.1).0)

pub none_read : (marks : List ℕ) → AreMarks marks → IsDirectory marks []
none_read marks are = record { paged = no_pages; within = All-nil (λ (p : Page). p.block < length marks); apart = λ b. omega (arith, are b) }

pub lengths_push : (pages : List Page) (p : Page) → lengths (pages ++ p ∷ []) ≡ lengths pages ++ p.length ∷ []
lengths_push pages p = map_push (λ (q : Page). q.length) pages p

pub times_push : (b : ℕ) (pages : List Page) (p : Page) → times b (blocks_of (pages ++ p ∷ [])) ≡ times b (blocks_of pages) + hit p.block b
times_push b pages p = ap (times b) (map_push (λ (q : Page). q.block) pages p) ∙ times-push b (blocks_of pages) p.block

-- what an entry keeps after `before` bytes in the page before it, with these marks
pub record KeepsPages (used : List ℕ) (before : ℕ) (p : Page) : Type 0 where
  pub some : 1 ≤ p.length
  pub most : p.length ≤ 4096
  pub pair : 0 < before → 4097 ≤ before + p.length
  pub within : p.block < length used
  pub free : get_or used p.block 0 ≡ 0

module _ (marks used : List ℕ) (pages : List Page) (k before : ℕ) (p : Page) (good : IsDirectory marks pages) (many : length pages ≡ k) (before_is : before ≡ get_or (lengths pages) (k - 1) 0)
    (used_is : (b : ℕ) → get_or used b 0 ≡ get_or marks b 0 + times b (blocks_of pages)) (size : length used ≡ length marks) where
  long : length (lengths pages) ≡ k
  long = length-map pages (λ (q : Page). q.length) ∙ many

  pub one_more : KeepsPages used before p → IsDirectory marks (pages ++ p ∷ [])
  one_more keeps =
      let alone : IsPaged (p.length ∷ []) = record { each = λ i lt. ⊎_elim (λ (some : 0 < i). absurd (omega arith)) (λ (none : i ≤ 0). let nought : i ≡ 0 = omega arith in (omega (arith, ap (λ j. get_or (p.length ∷ []) j 0) nought, keeps.some), omega (arith, ap (λ j. get_or (p.length ∷ []) j 0) nought, keeps.most))) (cases_lt 0 i); pairs = λ i lt. absurd (omega arith) } in
      let joined : IsPaged (lengths pages ++ p.length ∷ []) = join_paged (lengths pages) (p.length ∷ []) good.paged alone
      (λ some one.
      let place : length (lengths pages) - 1 ≡ k - 1 = omega (arith, long) in
      let last : get_or (lengths pages) (length (lengths pages) - 1) 0 ≡ before = ap (λ i. get_or (lengths pages) i 0) place ∙ sym before_is in
      let positive = (good.paged.each (length (lengths pages) - 1) (omega arith)).0 in
      omega (arith, keeps.pair (omega arith))) in
      record {
        paged = subst IsPaged (sym (lengths_push pages p)) joined;
        within = All-push (λ (q : Page). q.block < length marks) pages p good.within (omega (arith, keeps.within));
        apart = λ b. ⊎_elim
            (λ (same : p.block ≡ b). omega (arith, times_push b pages p, subst (λ c. get_or used c 0 ≡ 0) same keeps.free, used_is b, one_same p.block b same))
            (λ other. omega (arith, times_push b pages p, good.apart b, one_other p.block b other))
            (cases_eq p.block b);
      }

  pub more_used : KeepsPages used before p → (new : List ℕ) → new ≡ set used p.block 1 → (b : ℕ) → get_or new b 0 ≡ get_or marks b 0 + times b (blocks_of (pages ++ p ∷ []))
  more_used keeps new is b = omega (arith, ap (λ ms. get_or ms b 0) is, take_mark used p.block keeps.within keeps.free b, used_is b, times_push b pages p)

  -- an entry that keeps the rules with those before it is one that is taken
  pub kept : IsDirectory marks (pages ++ p ∷ []) → KeepsPages used before p
  kept all =
      let lens : List ℕ = lengths pages ++ p.length ∷ [] in
      let paged : IsPaged lens = subst IsPaged (lengths_push pages p) all.paged in
      let count : length lens ≡ k + 1 = omega (arith, length-append (lengths pages) (p.length ∷ []), long) in
      let last : get_or lens k 0 ≡ p.length = get_or_push (lengths pages) p.length 0 k long in
      let at = paged.each k (omega arith) in
      let block : p.block < length marks = subst (λ (q : Page). q.block < length marks) (get_or_push pages p p k many) (All-get_or (λ (q : Page). q.block < length marks) (pages ++ p ∷ []) k p (omega (arith, length-append pages (p ∷ []))) all.within) in
      record {
        some = omega arith;
        most = omega arith;
        pair = λ some. ⊎_elim
            (λ (later : 0 < k).
            let first : get_or lens (k - 1) 0 ≡ before = get_or_append_left (lengths pages) (p.length ∷ []) 0 (k - 1) (omega (arith, long)) ∙ sym before_is in
            omega (arith, pair_at lens (k - 1) k paged (omega arith) (omega arith)))
            (λ (none : k ≤ 0).
            let empty : lengths pages ≡ [] = nil_from_length (lengths pages) (omega (arith, long)) in
            absurd (omega (arith, before_is, ap (λ ls. get_or ls (k - 1) 0) empty)))
            (cases_lt 0 k);
        within = omega arith;
        free = omega (arith, used_is p.block, all.apart p.block, times_push p.block pages p, one_same p.block p.block refl);
      }

pub directory_push : (pages : List Page) (p : Page) → directory_text (pages ++ p ∷ []) ≡ directory_text pages ++ entry_text p
unfolding directory_text
directory_push pages p = flat_map-append entry_text pages (p ∷ []) ∙ ap (λ t. flat_map entry_text pages ++ t) (append-nil (entry_text p))

pub directory_more : (directory : List ℕ) (pages : List Page) (p : Page) (k : ℕ) → directory ≡ directory_text pages ++ drop (6 * k) directory → IsTextAt (entry_text p) (6 * k) directory → directory ≡ directory_text (pages ++ p ∷ []) ++ drop (6 * (k + 1)) directory
directory_more directory pages p k starts stands =
    let place : 6 * k + length (entry_text p) ≡ 6 * (k + 1) = omega (arith, length-entry p) in
    starts ∙ ap (λ t. directory_text pages ++ t) stands ∙ sym (append_assoc (directory_text pages) (entry_text p) (drop (6 * k + length (entry_text p)) directory))
    ∙ ap (λ i. directory_text pages ++ entry_text p ++ drop i directory) place ∙ ap (λ t. t ++ drop (6 * (k + 1)) directory) (sym (directory_push pages p))

pub last_length : (pages : List Page) (p : Page) (k : ℕ) → length pages ≡ k → p.length ≡ get_or (lengths (pages ++ p ∷ [])) (k + 1 - 1) 0
last_length pages p k many =
    let place : k + 1 - 1 ≡ k = omega arith in
    sym (ap (λ i. get_or (lengths (pages ++ p ∷ [])) i 0) place ∙ ap (λ ls. get_or ls k 0) (lengths_push pages p) ∙ get_or_push (lengths pages) p.length 0 k (length-map pages (λ (q : Page). q.length) ∙ many))

pub text_more : (pages : List Page) (bytes : ℕ → List ℕ) (i : ℕ) (d : Page) → i < length pages → text_on (take (i + 1) pages) bytes ≡ text_on (take i pages) bytes ++ take (get_or pages i d).length (bytes (get_or pages i d).block)
unfolding text_on
text_more pages bytes i d lt =
    let p : Page = get_or pages i d in
    ap (λ ps. text_on ps bytes) (take_more pages i d lt) ∙ text-append (take i pages) (p ∷ []) bytes ∙ ap (λ t. text_on (take i pages) bytes ++ t) (append-nil (take p.length (bytes p.block)))

pub long_more : (pages : List Page) (i : ℕ) (d : Page) → i < length pages → (text block new : List ℕ) → length text ≡ sum (take i (lengths pages)) → new ≡ text ++ take (get_or pages i d).length block → (get_or pages i d).length ≤ length block
    → length new ≡ sum (take (i + 1) (lengths pages))
long_more pages i d lt text block new so_far is fits =
    let p : Page = get_or pages i d in
    let within : i < length (lengths pages) = omega (arith, length-map pages (λ (q : Page). q.length)) in
    omega (arith, so_far, ap length is, length-append text (take p.length block), length-take p.length block, fits, ap sum (take_more (lengths pages) i 0 within), sum_by-append (λ y. y) (take i (lengths pages)) (get_or (lengths pages) i 0 ∷ []), get_or-map (λ (q : Page). q.length) pages i d 0 lt)

pub directory_none : directory_text [] ≡ []
unfolding directory_text
directory_none = refl

pub directory_end : (directory : List ℕ) (pages : List Page) (k : ℕ) → length directory % 6 ≡ 0 → length directory / 6 ≤ k → directory ≡ directory_text pages ++ drop (6 * k) directory → directory ≡ directory_text pages
directory_end directory pages k whole past starts =
    starts ∙ ap (λ t. directory_text pages ++ t) (drop_all (6 * k) directory (omega arith)) ∙ append-nil (directory_text pages)

-- an entry that keeps the rules is the one that was found at its place
pub same_entry : (used : List ℕ) (before : ℕ) (p q : Page) (at : ℕ) (directory : List ℕ) → length used ≤ 2 ^ 32 → q.block < 2 ^ 32 → q.length < 2 ^ 16 → IsTextAt (entry_text p) at directory → IsTextAt (entry_text q) at directory → KeepsPages used before p → KeepsPages used before q
same_entry used before p q at directory few small short stands_p stands_q keeps =
    let both = one_entry p q at directory (omega (arith, keeps.within)) (omega (arith, keeps.most)) small short stands_p stands_q in
    let long : p.length ≡ q.length = both.1 in
    record {
      some = omega (arith, keeps.some);
      most = omega (arith, keeps.most);
      pair = λ some. omega (arith, keeps.pair some);
      within = subst (λ b. b < length used) both.0 keeps.within;
      free = subst (λ b. get_or used b 0 ≡ 0) both.0 keeps.free;
    }

pub directory_next : (pages : List Page) (i : ℕ) (d : Page) (mid new : List ℕ) → i < length pages → mid ≡ directory_text (take i pages) → new ≡ mid ++ entry_text (get_or pages i d) → new ≡ directory_text (take (i + 1) pages)
directory_next pages i d mid new lt so_far is =
    is ∙ ap (λ t. t ++ entry_text (get_or pages i d)) so_far ∙ sym (ap directory_text (take_more pages i d lt) ∙ directory_push (take i pages) (get_or pages i d))
