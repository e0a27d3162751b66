-- Bytes written behind those that are typed.
use Rattle.std.proofs.Common.{◌≡◌, ℕ, ◌+◌, ◌-◌, ◌≤◌, true, leb, List, length, take, replicate, sym, ap, ◌∙◌, arith}
use Rattle.std.proofs.lemmas.List.{length-replicate}
use Rattle.std.proofs.lemmas.Bool.Decides.{nat_tests}
use Rattle.image.specs.Writes.{overwritten}
use Rattle.image.proofs.Overwriting.{take_upto}
use Rattle.steps.specs.Does.{Grows}
use Rattle.typing_words.specs.Output.{Types}

grown : (out : List ℕ) (n : ℕ) (new out' : List ℕ) (n' : ℕ) → n + length new ≤ length out → n' ≡ n + length new → out' ≡ overwritten n new out → Grows out n new out' n'
grown out n new out' n' h p e = (p, ap (λ y. take y out') p ∙ ap (take (n + length new)) e ∙ take_upto n new out (omega arith))

fit : (a b : ℕ) → leb a b ≡ true → a ≤ b
fit a b h = grind (arith, nat_tests)

-- bytes that fit
pub bytes_typed : (out : List ℕ) (n : ℕ) (new out' : List ℕ) (n' : ℕ) → n ≤ length out → true ≡ leb (length new) (length out - n) → n' ≡ n + length new → out' ≡ overwritten n new out → Types out n new true out' n'
bytes_typed out n new out' n' b h p e = let k = fit (length new) (length out - n) (sym h) in (grown out n new out' n' (omega arith) p e, k)

pub blanks_typed : (out : List ℕ) (n k : ℕ) (out' : List ℕ) → n ≤ length out → true ≡ leb k (length out - n) → out' ≡ overwritten n (replicate k 32) out → Types out n (replicate k 32) true out' (n + k)
blanks_typed out n k out' b h e =
    let l = length-replicate {A = ℕ} k 32 in
    bytes_typed out n (replicate k 32) out' (n + k) b (rw l h) (ap (λ y. n + y) (sym l)) e
