-- (."), a count byte and a text, put one behind the other.
use Rattle.std.proofs.Common.{◌≡◌, ℕ, ◌+◌, ◌<◌, ◌≤◌, List, [], ◌∷◌, ◌++◌, length, take, ap, ◌∙◌, arith, append_assoc, w16}
use Rattle.std.specs.Int.{to_le_bytes}
use Rattle.image.specs.Cells.{cell}
use Rattle.image.specs.Writes.{overwritten}
use Rattle.image.proofs.Overwriting.{take_upto, length-overwritten}
use Rattle.dictionary.proofs.Growing.{le_bytes_are_cell}

length_cell : (x : ℕ) → length (cell x) ≡ 2
unfolding cell
length_cell x = omega arith

pub quoted : (b0 b1 b2 b3 front text : List ℕ) (x a e1 e2 e3 : ℕ) → e3 ≡ e2 + length text → b3 ≡ overwritten e2 text b2 → b2 ≡ overwritten e1 (length text ∷ []) b1 → e2 ≡ e1 + 1 → b1 ≡ overwritten 0 front b0 → e1 ≡ 0 + length front → front ≡ to_le_bytes w16 x → x ≡ a → a < 65536 → length b0 ≡ 258 → length text ≤ 255 → take e3 b3 ≡ cell a ++ (length text ∷ text)
quoted b0 b1 b2 b3 front text x a e1 e2 e3 p3 q3 q2 p2 q1 p1 f fx fa l0 lt =
    let n : List ℕ = length text ∷ [] in
    let c : front ≡ cell a = f ∙ ap (to_le_bytes w16) fx ∙ le_bytes_are_cell a fa in
    let lf : length front ≡ 2 = ap length c ∙ length_cell a in
    let l1 : length b1 ≡ 258 = ap length q1 ∙ length-overwritten 0 front b0 (omega arith) ∙ l0 in
    let l2 : length b2 ≡ 258 = ap length q2 ∙ length-overwritten e1 n b1 (omega arith) ∙ l1 in
    let t1 : take e1 b1 ≡ cell a = ap (λ y. take y b1) p1 ∙ ap (take (0 + length front)) q1 ∙ take_upto 0 front b0 (omega arith) ∙ c in
    let t2 : take e2 b2 ≡ cell a ++ n = ap (λ y. take y b2) p2 ∙ ap (take (e1 + 1)) q2 ∙ take_upto e1 n b1 (omega arith) ∙ ap (λ (y : List ℕ). y ++ n) t1 in
    ap (λ y. take y b3) p3 ∙ ap (take (e2 + length text)) q3 ∙ take_upto e2 text b2 (omega arith) ∙ ap (λ (y : List ℕ). y ++ text) t2 ∙ append_assoc (cell a) n text
