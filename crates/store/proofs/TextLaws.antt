-- Laws of lines laid out in blocks.
use Rattle.std.proofs.Common.{◌≡◌, ℕ, zero, suc, ◌+◌, ◌-◌, ◌*◌, ◌/◌, ◌%◌, ◌<◌, ◌≤◌, true, false, eqb, leb, List, [], ◌∷◌, ◌++◌, length, get_or, take, drop, replicate, sym, refl, ap, ◌∙◌, inl, inr, arith, leb-true}
use Rattle.std.proofs.lemmas.List.{append_assoc, drop_at, drop-drop, drop-replicate, drop-take, length-append, length-replicate, take_at, take-replicate, take-take}
use Rattle.std.proofs.lemmas.Bool.{and_from, and_parts, cond-true, cases_Bool, cond-false, eq-eqb, le-leb}
use Rattle.store.specs.Cards.{blocks_of, card_of, is_whole, read_only_card, whole_blocks}
use Rattle.store.specs.Texts.{LinesInBlocks, all_fit, blocks_for, is_text_card, laid_out, lines_of, padded, text_blocks, text_card}
use Rattle.store.specs.Soundness.{get_or-blocks_of}

pub length-padded : (n : ℕ) (bytes : List ℕ) → length bytes ≤ n → length (padded n bytes) ≡ n
length-padded n bytes h = simp (length-append, length-replicate) (omega arith)

pub length-laid_out : (lines : List (List ℕ)) → all_fit lines ≡ true → length (laid_out lines) ≡ 64 * length lines
length-laid_out [] e = refl
length-laid_out (line ∷ lines) e =
    let p = and_parts (leb (length line) 64) (all_fit lines) e in
    let f : length (padded 64 line) ≡ 64 = length-padded 64 line (leb-true (length line) 64 p.0) in
    let i = length-laid_out lines p.1 in
    length-append (padded 64 line) (laid_out lines) ∙ omega arith

-- line j of lines laid out, with blanks behind them
pub line_at : (lines : List (List ℕ)) (j m : ℕ) → all_fit lines ≡ true → 64 * j + 64 ≤ 64 * length lines + m
    → take 64 (drop (64 * j) (laid_out lines ++ replicate m 32)) ≡ padded 64 (get_or lines j [])
line_at [] j m e h =
    let h' : 64 ≤ m - 64 * j = omega arith in
    ap (take 64) (drop-replicate (64 * j) m 32) ∙ take-replicate 64 (m - 64 * j) 32 h'
line_at (line ∷ lines) zero m e h =
    let p = and_parts (leb (length line) 64) (all_fit lines) e in
    let f : length (padded 64 line) ≡ 64 = length-padded 64 line (leb-true (length line) 64 p.0) in
    ap (take 64) (append_assoc (padded 64 line) (laid_out lines) (replicate m 32)) ∙ take_at (padded 64 line) (laid_out lines ++ replicate m 32) 64 f
line_at (line ∷ lines) (suc j) m e h =
    let p = and_parts (leb (length line) 64) (all_fit lines) e in
    let f : length (padded 64 line) ≡ 64 = length-padded 64 line (leb-true (length line) 64 p.0) in
    let s : 64 * suc j ≡ 64 + 64 * j = omega arith in
    let h' : 64 * j + 64 ≤ 64 * length lines + m = omega arith in
    ap (λ l. take 64 (drop (64 * suc j) l)) (append_assoc (padded 64 line) (laid_out lines) (replicate m 32))
    ∙ ap (λ i. take 64 (drop i (padded 64 line ++ (laid_out lines ++ replicate m 32)))) s
    ∙ ap (take 64) (sym (drop-drop (64 * j) 64 (padded 64 line ++ (laid_out lines ++ replicate m 32))))
    ∙ ap (λ l. take 64 (drop (64 * j) l)) (drop_at (padded 64 line) (laid_out lines ++ replicate m 32) 64 f)
    ∙ line_at lines j m p.1 h'

-- sixteen lines a block leave room for each line
room : (lines : ℕ) → lines ≤ 16 * blocks_for lines
room lines = omega arith

whole_blocks_lem : (k : ℕ) → k ≤ 65535 → whole_blocks (1024 * k) ≡ k
whole_blocks_lem k h =
    let m : 1024 * k % 1024 ≡ 0 = omega arith in
    let d : 1024 * k / 1024 ≡ k = omega arith in
    let few : 1024 * k / 1024 ≤ 65535 = omega arith in
    let e : is_whole (1024 * k) ≡ true = and_from (eqb (1024 * k % 1024) 0) (leb (1024 * k / 1024) 65535) (eq-eqb (1024 * k % 1024) 0 m) (le-leb (1024 * k / 1024) 65535 few) in
    cond-true (is_whole (1024 * k)) (1024 * k / 1024) 0 e ∙ d

-- where the answer is yes, the bytes laid out are the card
pub bytes_are_card : (text : List ℕ) (k : ℕ) → is_text_card text ≡ true → k ≡ blocks_for (length (lines_of text))
    → read_only_card (padded (1024 * k) (laid_out (lines_of text))) ≡ text_card text
bytes_are_card text k e s =
    let lines : List (List ℕ) = lines_of text in
    let K : ℕ = blocks_for (length lines) in
    let p = and_parts (all_fit lines) (leb K 65535) e in
    let few : K ≤ 65535 = leb-true K 65535 p.1 in
    let l : length (laid_out lines) ≡ 64 * length lines = length-laid_out lines p.0 in
    let r : length lines ≤ 16 * K = room (length lines) in
    let f : length (padded (1024 * K) (laid_out lines)) ≡ 1024 * K = length-padded (1024 * K) (laid_out lines) (omega (arith, l, r)) in
    ap (λ j. read_only_card (padded (1024 * j) (laid_out lines))) s
    ∙ ap (λ j. card_of false j (padded (1024 * K) (laid_out lines))) (ap whole_blocks f ∙ whole_blocks_lem K few ∙ sym (cond-true (is_text_card text) K 0 e))

-- where it is no, the card has no blocks
pub no_bytes_are_card : (text bytes : List ℕ) → is_text_card text ≡ false → bytes ≡ [] → read_only_card bytes ≡ text_card text
unfolding blocks_of
no_bytes_are_card text bytes e s =
    let K : ℕ = blocks_for (length (lines_of text)) in
    ap read_only_card s ∙ ap (λ j. card_of false j (padded (1024 * K) (laid_out (lines_of text)))) (sym (cond-false (is_text_card text) K 0 e))

-- a text with blocks is a card
is_card : (text : List ℕ) (b : ℕ) → b < text_blocks text → is_text_card text ≡ true
is_card text b h =
    elim (cases_Bool (is_text_card text)) as (λ _. is_text_card text ≡ true) [
      | inl e ↦ e
      | inr e ↦ (let z : text_blocks text ≡ 0 = cond-false (is_text_card text) (blocks_for (length (lines_of text))) 0 e in absurd (omega arith))
    ]

pub lines_in_blocks : (text : List ℕ) → LinesInBlocks text
lines_in_blocks text b k h l =
    let lines : List (List ℕ) = lines_of text in
    let K : ℕ = blocks_for (length lines) in
    let e : is_text_card text ≡ true = is_card text b h in
    let fit : all_fit lines ≡ true = (and_parts (all_fit lines) (leb K 65535) e).0 in
    let c : text_blocks text ≡ K = cond-true (is_text_card text) K 0 e in
    let n : length (laid_out lines) ≡ 64 * length lines = length-laid_out lines fit in
    let M : ℕ = 1024 * K - length (laid_out lines) in
    let P : List ℕ = laid_out lines ++ replicate M 32 in
    let rest : ℕ = 1024 - 64 * k in
    let s₁ : 1024 ≡ 64 * k + rest = omega arith in
    let s₂ : 64 ≤ rest = omega arith in
    let s₃ : b * 1024 + 64 * k ≡ 64 * (16 * b + k) = omega arith in
    let s₄ : 64 * (16 * b + k) + 64 ≤ 64 * length lines + M = omega (arith, h, c, n) in
    ap (λ p. take 64 (drop (64 * k) p)) (get_or-blocks_of (text_blocks text) b P h)
    ∙ ap (λ j. take 64 (drop (64 * k) (take j (drop (b * 1024) P)))) s₁
    ∙ ap (take 64) (drop-take (64 * k) rest (drop (b * 1024) P))
    ∙ take-take 64 rest (drop (64 * k) (drop (b * 1024) P)) s₂
    ∙ ap (take 64) (drop-drop (64 * k) (b * 1024) P)
    ∙ ap (λ j. take 64 (drop j P)) s₃
    ∙ line_at lines (16 * b + k) M fit s₄
