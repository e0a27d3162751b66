-- The row of a number asks for what its code does.
use Rattle.std.proofs.Common.{◌≡◌, ℕ, zero, suc, ◌+◌, ◌<◌, eqb, true, List, [], ◌∷◌, length, slice_index_or, refl, subst, arith}
use Rattle.std.proofs.lemmas.Bool as Tests
use Rattle.codes.specs.declared.code.Code.{Code}
use Rattle.codes.specs.declared.code.Code.TheVariants.{Stack, Unary, Binary, Memory, Leaving, Returns, Inline, Colon, Created, Constant, Does, Seldom}
use Rattle.codes.specs.declared.code.SeldomWord.{SeldomWord}
use Rattle.codes.specs.declared.code.SeldomWord.TheVariants.{Divide, Appending, Allot, Typing, Block, Load, ToBody, Abort, Naming, Compiling, Control, Vocabulary, Execute, Unknown}
use Rattle.codes.specs.Codes.{SeldomCoded, Coded, seldom_number, number_of, rows_from}

seldom_coded : (w : SeldomWord) → SeldomCoded (seldom_number w) w
seldom_coded (Divide w) = refl
seldom_coded (Appending w) = refl
seldom_coded Allot = refl
seldom_coded (Typing w) = refl
seldom_coded (Block w) = refl
seldom_coded Load = refl
seldom_coded ToBody = refl
seldom_coded Abort = refl
seldom_coded (Naming w) = refl
seldom_coded (Compiling w) = refl
seldom_coded (Control w) = refl
seldom_coded Vocabulary = refl
seldom_coded Execute = refl
seldom_coded Unknown = refl

coded : (c : Code) → Coded (number_of c) c
coded (Stack w) = refl
coded (Unary w) = refl
coded (Binary w) = refl
coded (Memory w) = refl
coded (Leaving w) = refl
coded (Returns w) = refl
coded (Inline w) = refl
coded Colon = refl
coded Created = refl
coded Constant = refl
coded Does = refl
coded (Seldom w) = seldom_coded w

row_coded : (n k m : ℕ) (l : List Code) (other : Code) → m ≡ n + k → rows_from n l ≡ true → k < length l → Coded m (slice_index_or l k other)
row_coded n k m [] other p h g = absurd (omega (arith, g))
row_coded n zero m (c ∷ l) other p h g =
    let b = Tests.and_parts (eqb (number_of c) n) (rows_from (suc n) l) h in
    let q = Tests.eqb-true (number_of c) n b.0 in
    subst (λ y. Coded y c) (omega (arith, q, p)) (coded c)
row_coded n (suc k) m (c ∷ l) other p h g =
    let b = Tests.and_parts (eqb (number_of c) n) (rows_from (suc n) l) h in
    row_coded (suc n) k m l other (omega (arith, p)) b.1 (omega (arith, g))

pub row_at : (n place : ℕ) (l : List Code) (other : Code) → n < length l → place ≡ n → rows_from 0 l ≡ true → Coded n (slice_index_or l place other)
row_at n place l other a p h = row_coded 0 place n l other (omega (arith, p)) h (omega (arith, a, p))
