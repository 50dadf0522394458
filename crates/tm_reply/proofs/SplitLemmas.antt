-- Each reply's text ends with its one closing line, so that texts split in one way.
use Rattle.std.proofs.Common.{◌≡◌, ℕ, ◌<◌, true, List, [], ◌∷◌, ◌++◌, Option, refl, sym, ap, ap₂, ◌∙◌, subst, append_assoc, length, length-append, map, arith}
use Rattle.std.specs.List.{list_all}
use Rattle.std.proofs.lemmas.Bool.{true≢false, both_ways, not-true, not_from_false, and_from, and_parts}
use Rattle.tm_base.specs.declared.refused.Refused.{Refused}
use Rattle.tm_reply.specs.Layout.{spaced}
use Rattle.tm_reply.specs.Rows.{row_words, row_text}
use Rattle.tm_reply.specs.Closings.{closing_words, closing_text}
use Rattle.tm_reply.specs.Replies.{rows_text, reply_text}
use Rattle.tm_reply.specs.ReplyLaws.{is_unbroken, closes, goes_on, lines_then, ClosesOnce}
use Rattle.tm_reply.specs.declared.reply.Reply.{Reply}
use Rattle.tm_reply.specs.declared.row.ReplyRow.{ReplyRow}
use Rattle.tm_reply.proofs.LineLemmas.{unbroken_spaced, line_of-spaced, unbroken_row, row_goes_on, unbroken_closing, closing_closes}

-- a line that closes a reply
record IsLast (line : List ℕ) : Type 0 where
  unbroken : is_unbroken line ≡ true
  closes_it : closes line ≡ true

-- a data line and a closing line, without their ends

abbrev row_line : ReplyRow → List ℕ
row_line r = spaced (row_words r)

abbrev closing_line : Option Refused → List ℕ
closing_line r = spaced (closing_words r)

rows_go_on : (rows : List ReplyRow) → list_all goes_on (map row_line rows) ≡ true
rows_go_on [] = refl
rows_go_on (r ∷ rows) =
    let unbroken = (unbroken_spaced (row_words r) (unbroken_row r)).unbroken in
    and_from (goes_on (row_line r)) _ (and_from (is_unbroken (row_line r)) _ unbroken (not_from_false _ (row_goes_on r))) (rows_go_on rows)

closing_last : (r : Option Refused) → IsLast (closing_line r)
closing_last r = record {
  unbroken = (unbroken_spaced (closing_words r) (unbroken_closing r)).unbroken;
  closes_it = closing_closes r;
}

rows_text-then : (rows : List ReplyRow) (rest : List ℕ) → rows_text rows ++ rest ≡ lines_then (map row_line rows) rest
unfolding row_text
rows_text-then [] rest = refl
rows_text-then (r ∷ rows) rest =
    append_assoc (row_text r) (rows_text rows) rest
    ∙ ap (λ (t : List ℕ). t ++ (rows_text rows ++ rest)) (line_of-spaced (row_words r))
    ∙ append_assoc (row_line r) (0x0A ∷ []) (rows_text rows ++ rest)
    ∙ ap (λ (t : List ℕ). row_line r ++ 0x0A ∷ t) (rows_text-then rows rest)

-- a reply's text is its data lines and then its closing line
pub closes_once : (reply : Reply) → ClosesOnce (reply_text reply)
unfolding reply_text closing_text
closes_once reply =
    let last = closing_last reply.refused in
    record {
      rows = map row_line reply.rows;
      closing = closing_line reply.refused;
      text_is = rows_text-then reply.rows (closing_text reply.refused)
          ∙ ap (λ (t : List ℕ). lines_then (map row_line reply.rows) t) (line_of-spaced (closing_words reply.refused));
      go_on = rows_go_on reply.rows;
      unbroken = last.unbroken;
      closes_it = last.closes_it;
    }

-- a reply's text is not empty
pub reply_some : (reply : Reply) → 0 < length (reply_text reply)
unfolding reply_text closing_text
reply_some reply =
    let last = closing_line reply.refused in
    omega (
      arith,
      length-append (rows_text reply.rows) (closing_text reply.refused),
      ap length (line_of-spaced (closing_words reply.refused)),
      length-append last (0x0A ∷ []),
    )

-- texts one after the other

-- the first byte of an unbroken line ends none
first_is_no_end : (b : ℕ) (line : List ℕ) → is_unbroken (b ∷ line) ≡ true → 0x0A ≡ b → ⊥
first_is_no_end b line unbroken e =
    let broken : is_unbroken (0x0A ∷ line) ≡ true = subst (λ (k : ℕ). is_unbroken (k ∷ line) ≡ true) (sym e) unbroken in
    true≢false (sym broken)

-- the first line of a text is one
first_line : (l m x y : List ℕ) → is_unbroken l ≡ true → is_unbroken m ≡ true → l ++ 0x0A ∷ x ≡ m ++ 0x0A ∷ y → (l ≡ m) × (x ≡ y)
first_line [] [] x y p q e = (refl, cc)
first_line [] (b ∷ m) x y p q e = let end : 0x0A ≡ b = cc in absurd (first_is_no_end b m q end)
first_line (a ∷ l) [] x y p q e = let end : 0x0A ≡ a = cc in absurd (first_is_no_end a l p end)
first_line (a ∷ l) (b ∷ m) x y p q e =
    let same : a ≡ b = cc in
    let more : l ++ 0x0A ∷ x ≡ m ++ 0x0A ∷ y = cc in
    let rest = first_line l m x y (and_parts _ _ p).1 (and_parts _ _ q).1 more in
    (ap₂ (λ (k : ℕ) (t : List ℕ). k ∷ t) same rest.0, rest.1)

-- a data line is no closing line
not_same : (line last : List ℕ) → goes_on line ≡ true → IsLast last → line ≡ last → ⊥
not_same line last goes is same =
    both_ways (closes line) (not-true _ (and_parts (is_unbroken line) _ goes).1) (subst (λ (t : List ℕ). closes t ≡ true) (sym same) is.closes_it)

same_lines : (k l : List (List ℕ)) (c d x y : List ℕ) → list_all goes_on k ≡ true → list_all goes_on l ≡ true → IsLast c → IsLast d
    → lines_then k (c ++ 0x0A ∷ x) ≡ lines_then l (d ++ 0x0A ∷ y) → (k ≡ l) × (c ≡ d) × (x ≡ y)
same_lines [] [] c d x y p q r s e = let same = first_line c d x y r.unbroken s.unbroken e in (refl, same.0, same.1)
same_lines [] (m ∷ l) c d x y p q r s e =
    let goes = and_parts (goes_on m) _ q in
    let same = first_line c m x _ r.unbroken (and_parts (is_unbroken m) _ goes.0).0 e in
    absurd (not_same m c goes.0 r (sym same.0))
same_lines (m ∷ k) [] c d x y p q r s e =
    let goes = and_parts (goes_on m) _ p in
    let same = first_line m d _ y (and_parts (is_unbroken m) _ goes.0).0 s.unbroken e in
    absurd (not_same m d goes.0 s same.0)
same_lines (m ∷ k) (n ∷ l) c d x y p q r s e =
    let goes = and_parts (goes_on m) _ p in
    let goes_too = and_parts (goes_on n) _ q in
    let same = first_line m n _ _ (and_parts (is_unbroken m) _ goes.0).0 (and_parts (is_unbroken n) _ goes_too.0).0 e in
    let rest = same_lines k l c d x y goes.1 goes_too.1 r s same.1 in
    (ap₂ (λ (t : List ℕ) (ts : List (List ℕ)). t ∷ ts) same.0 rest.0, rest.1, rest.2)

lines_then-append : (lines : List (List ℕ)) (rest more : List ℕ) → lines_then lines rest ++ more ≡ lines_then lines (rest ++ more)
lines_then-append [] rest more = refl
lines_then-append (line ∷ lines) rest more =
    append_assoc line (0x0A ∷ lines_then lines rest) more ∙ ap (λ (t : List ℕ). line ++ 0x0A ∷ t) (lines_then-append lines rest more)

with_rest : (text x : List ℕ) → (t : ClosesOnce text) → text ++ x ≡ lines_then t.rows (t.closing ++ 0x0A ∷ x)
with_rest text x t =
    ap (λ (u : List ℕ). u ++ x) t.text_is ∙ lines_then-append t.rows (t.closing ++ 0x0A ∷ []) x
    ∙ ap (λ (u : List ℕ). lines_then t.rows u) (append_assoc t.closing (0x0A ∷ []) x)

-- two texts that close once, with what follows each
pub split_in_one_way : (a b x y : List ℕ) → ClosesOnce a → ClosesOnce b → a ++ x ≡ b ++ y → (a ≡ b) × (x ≡ y)
split_in_one_way a b x y p q e =
    let first : IsLast p.closing = record { unbroken = p.unbroken; closes_it = p.closes_it } in
    let second : IsLast q.closing = record { unbroken = q.unbroken; closes_it = q.closes_it } in
    let same =
    same_lines p.rows q.rows p.closing q.closing x y p.go_on q.go_on first second
    (sym (with_rest a x p) ∙ e ∙ with_rest b y q) in (
      p.text_is ∙ ap₂ (λ (lines : List (List ℕ)) (c : List ℕ). lines_then lines (c ++ 0x0A ∷ [])) same.0 same.1 ∙ sym q.text_is,
      same.2,
    )
