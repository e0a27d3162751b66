-- The ends of a search and of telling what a word is.
use Rattle.std.proofs.Common.{◌≡◌, ℕ, ◌+◌, ◌≤◌, Bool, true, false, cond, List, length, Some, None, Ok, Err, Option, Result, sym, refl, ap, ◌∙◌, subst, arith, if◌then◌else◌}
use Rattle.fault.specs.declared.Fault.{Fault}
use Rattle.fault.specs.declared.Place.{Place}
use Rattle.fault.specs.declared.Reason.TheVariants.{BadName, BrokenLink, NotFound}
use Rattle.fault.specs.Numbers.{fault_of}
use Rattle.store.specs.Meaning.{Meaning}
use Rattle.image.specs.Cells.{cell_at}
use Rattle.image.specs.Views.{low_of}
use Rattle.image.proofs.Laws.{length_low, cell_high}
use Rattle.entries.specs.Entries.{is_immediate, token_of}
use Rattle.entries.specs.Search.{Found, missing, broken, hit}
use Rattle.entries.specs.Threads.{answered}
use Rattle.entries.proofs.Walks.{first_above}
use Rattle.numbers.specs.Text.{number_in}
use Rattle.dictionary.specs.Dict.{Dict}
use Rattle.dictionary.specs.Lent.{dict_in}
use Rattle.dictionary.specs.Search.{searched}
use Rattle.definition.specs.declared.registers.Mark.{Mark}
use Rattle.definition.specs.declared.ranged.Registers.{Registers}
use Rattle.definition.specs.Machine.{Machine, told, dict_of}
use Rattle.definition.specs.Asked.{Asked, refused, given, ask, ◌>>=◌, After}
use Rattle.definition.specs.Text.{Taken, is_name, ask_found, ask_there}
use Rattle.definition.specs.Space.{base}
use Rattle.definition.specs.Step
use Rattle.definition.specs.Step.{word_of, acted}
use Rattle.definition.proofs.Agreeing.{dp_bottom}
use Rattle.steps.specs.Seats.{told_by}
use Rattle.steps.specs.Does.{seen, IsRefused}
use Rattle.steps.proofs.Changing.{here_seen}
use Rattle.texts.specs.Texts.{word_in}
use Rattle.texts.specs.declared.word.Word.{Word}
use Rattle.texts.specs.declared.word.Word.TheVariants.{Immediate, Plain, Number}
use Rattle.texts.specs.Finding.{Answers, EntryInside, classified, Interpreting, meant, KindIs}
use Rattle.texts.specs.Kinds.{kind_at}
use Rattle.texts.proofs.Entering.{Whole, whole_found}

-- a refusal stays one, whatever was to follow
pub refuses_on : {A B : Type 0} (x : Asked A) (g : A → Asked B) (e : Fault) (m : Machine) → IsRefused x e m → IsRefused (x >>= g) e m
refuses_on (refused why m') g e m h = h
refuses_on (given a) g e m h = absurd h

pub bind_assoc : {A B C : Type 0} (x : Asked A) (f : A → Asked B) (g : B → Asked C) → (x >>= f >>= g) ≡ (x >>= λ a. f a >>= g)
bind_assoc (refused why m) f g = refl
bind_assoc (given a) f g = refl

-- SEARCH
found_by : (m : Machine) (p : Place) (f : Found) (o : Result (Option ℕ) Fault) → o ≡ answered p f → p ≡ told m → Answers (ask_found m f) o m
found_by m p missing o q e = let P : Result (Option ℕ) Fault → Type 0 = λ x. Answers (ask_found m missing) x m in subst P (sym q) refl
found_by m p broken o q e = let P : Result (Option ℕ) Fault → Type 0 = λ x. Answers (ask_found m broken) x m in subst P (sym q) (ap (fault_of BrokenLink) e, refl)
found_by m p (hit x) o q e = let P : Result (Option ℕ) Fault → Type 0 = λ y. Answers (ask_found m (hit x)) y m in subst P (sym q) refl

inside_by : (p : Place) (low : List ℕ) (n : ℕ) (f : Found) (o : Result (Option ℕ) Fault) → o ≡ answered p f → ((x : ℕ) → f ≡ hit x → Whole low n x) → EntryInside n o
inside_by p low n missing o q h = subst (EntryInside n) (sym q) tt
inside_by p low n broken o q h = subst (EntryInside n) (sym q) tt
inside_by p low n (hit x) o q h = let w = h x refl in let a = first_above low x in subst (EntryInside n) (sym q) (w.0, omega arith)

module _ (r : Registers) (i : List ℕ) (l : length i ≡ 65536) (name : List ℕ) (o : Result (Option ℕ) Fault) where
  abbrev held : Dict
  held = dict_in r.shared.ends r.shared.names r.seat.order i

  module _ (q : o ≡ answered (told_by r.seat) (searched held name)) where
    pub searched_seen : (c t : List ℕ) (k : List Mark) (s : Meaning) → Answers (ask_found (seen r i c t k s) (searched (dict_of (seen r i c t k s)) name)) o (seen r i c t k s)
    searched_seen c t k s =
        let e = ap (λ h. dict_in (record { dp = r.shared.ends.dp; here = h }) r.shared.names r.seat.order i) (here_seen r i c t k s l) in
        found_by (seen r i c t k s) (told_by r.seat) (searched (dict_of (seen r i c t k s)) name) o (q ∙ ap (λ D. answered (told_by r.seat) (searched D name)) (sym e)) refl

    pub found_inside : EntryInside r.shared.ends.dp o
    found_inside =
        let e : length (low_of r.shared.ends.dp i) ≡ r.shared.ends.dp = length_low r.shared.ends.dp i (dp_bottom r) (omega (arith, r.top)) in
        subst (λ n. EntryInside n o) e (inside_by (told_by r.seat) (low_of r.shared.ends.dp i) (length (low_of r.shared.ends.dp i)) (searched held name) o q (whole_found held name))

-- an entry that is there lies in the dictionary
pub entry_in_lem : (dp : ℕ) (o : Option ℕ) (x : ℕ) → o ≡ Some x → EntryInside dp (Ok o) → (258 ≤ x) × (x + 7 ≤ dp)
entry_in_lem dp o x e h = let P : Option ℕ → Type 0 = λ y. EntryInside dp (Ok y) in subst P e h

-- KINDS
pub interpreting : Interpreting
interpreting t =
    let m = t.machine in
    let x = ask_found m (searched (dict_of m) t.bytes) in
    let g : Step.Word → Asked After = λ w. acted m.flow.compiling w m in
    sym (bind_assoc (ask m BadName (is_name t.bytes)) (λ _. x >>= λ found. word_of t.bytes found m) g
    ∙ ap (λ y. ask m BadName (is_name t.bytes) >>= λ _. y) (bind_assoc x (λ found. word_of t.bytes found m) g))

abbrev last : Registers → List ℕ → List ℕ → List ℕ → List Mark → Meaning → Taken
last r i c t k s = record { machine = seen r i c t k s; bytes = word_in r.seat i }

kind_bad : (t : Taken) → is_name t.bytes ≡ false → classified t ≡ refused BadName t.machine
kind_bad t h = ap (λ b. ask t.machine BadName b >>= λ _. ask_found t.machine (searched (dict_of t.machine) t.bytes) >>= λ found. word_of t.bytes found t.machine) h

kind_good : (t : Taken) → is_name t.bytes ≡ true → classified t ≡ (ask_found t.machine (searched (dict_of t.machine) t.bytes) >>= λ found. word_of t.bytes found t.machine)
kind_good t h = ap (λ b. ask t.machine BadName b >>= λ _. ask_found t.machine (searched (dict_of t.machine) t.bytes) >>= λ found. word_of t.bytes found t.machine) h

meant_at : (b : Bool) (t : ℕ) → (if b then Step.immediate t else Step.plain t) ≡ meant (cond b (Immediate t) (Plain t))
meant_at true t = refl
meant_at false t = refl

base_seen : (r : Registers) (i c t : List ℕ) (k : List Mark) (s : Meaning) → base (seen r i c t k s) ≡ cell_at i 32768
base_seen r i c t k s = cell_high r.shared.ends.here i 32768 (omega arith) (omega (arith, r.space))

abbrev judged : Machine → Option ℕ → Asked Step.Word
judged m y = ask_there m y >>= λ v. given (Step.number v)

judge : (m : Machine) (y : Option ℕ) → judged m y ≡ (elim y as (λ _. Asked Step.Word) [ None ↦ refused NotFound m | Some v ↦ given (Step.number v) ])
judge m None = refl
judge m (Some v) = refl

module _ (r : Registers) (i : List ℕ) (w : List ℕ) (pw : w ≡ word_in r.seat i) where
  abbrev Searched : Result (Option ℕ) Fault → Type 0
  Searched o = (c t : List ℕ) (k : List Mark) (s : Meaning) → Answers (ask_found (seen r i c t k s) (searched (dict_of (seen r i c t k s)) w)) o (seen r i c t k s)

  pub no_name : (b : Bool) (e : Fault) → b ≡ is_name w → b ≡ false → e ≡ fault_of BadName (told_by r.seat) → KindIs r i (Err e)
  no_name b e q h p = λ c t k s. rw (kind_bad (last r i c t k s) (ap is_name (sym pw) ∙ sym q ∙ h)) (p, refl)

  module _ (b : Bool) (q : b ≡ is_name w) (h : b ≡ true) where
    named : is_name (word_in r.seat i) ≡ true
    named = ap is_name (sym pw) ∙ sym q ∙ h

    pub broken_link : (e : Fault) → Searched (Err e) → KindIs r i (Err e)
    broken_link e f = λ c t k s.
        let m = seen r i c t k s in
        let P : List ℕ → Type 0 = λ y. IsRefused (ask_found m (searched (dict_of m) y)) e m in
        rw (kind_good (last r i c t k s) named) (refuses_on (ask_found m (searched (dict_of m) (word_in r.seat i))) (λ found. word_of (word_in r.seat i) found m) e m (subst P pw (f c t k s)))

    goes_on : (o : Option ℕ) → Searched (Ok o) → (c t : List ℕ) (k : List Mark) (s : Meaning) → classified (last r i c t k s) ≡ word_of (word_in r.seat i) o (seen r i c t k s)
    goes_on o f c t k s =
        let m = seen r i c t k s in
        let P : List ℕ → Type 0 = λ y. ask_found m (searched (dict_of m) y) ≡ given o in
        kind_good (last r i c t k s) named ∙ ap (λ (y : Asked (Option ℕ)). y >>= λ found. word_of (word_in r.seat i) found m) (subst P pw (f c t k s))

    pub at_entry : (o : Option ℕ) (x : ℕ) (v : Word) → o ≡ Some x → Searched (Ok o) → v ≡ kind_at (low_of r.shared.ends.dp i) x → KindIs r i (Ok v)
    at_entry o x v z f e = λ c t k s.
        let low = low_of r.shared.ends.dp i in
        goes_on o f c t k s ∙ ap (λ y. word_of (word_in r.seat i) y (seen r i c t k s)) z
        ∙ ap given (meant_at (is_immediate low x) (token_of low x) ∙ ap meant (sym e))

    numbered : (o : Option ℕ) (x : ℕ) (n : Option ℕ) → o ≡ None → Searched (Ok o) → x ≡ cell_at i 32768 → n ≡ number_in x w → (c t : List ℕ) (k : List Mark) (s : Meaning) → classified (last r i c t k s) ≡ (elim n as (λ _. Asked Step.Word) [ None ↦ refused NotFound (seen r i c t k s) | Some y ↦ given (Step.number y) ])
    numbered o x n z f ex en c t k s =
        let m = seen r i c t k s in
        let e : number_in (base m) (word_in r.seat i) ≡ n = ap (λ y. number_in y (word_in r.seat i)) (base_seen r i c t k s ∙ sym ex) ∙ ap (number_in x) (sym pw) ∙ sym en in
        goes_on o f c t k s ∙ ap (λ y. word_of (word_in r.seat i) y m) z ∙ ap (judged m) e ∙ judge m n

    pub a_number : (o : Option ℕ) (x y : ℕ) (n : Option ℕ) → o ≡ None → Searched (Ok o) → x ≡ cell_at i 32768 → n ≡ number_in x w → n ≡ Some y → KindIs r i (Ok (Number y))
    a_number o x y n z f ex en e = λ c t k s.
        numbered o x n z f ex en c t k s ∙ ap (λ u. elim u as (λ _. Asked Step.Word) [ None ↦ refused NotFound (seen r i c t k s) | Some v ↦ given (Step.number v) ]) e

    pub not_found : (o : Option ℕ) (x : ℕ) (n : Option ℕ) (g : Fault) → o ≡ None → Searched (Ok o) → x ≡ cell_at i 32768 → n ≡ number_in x w → n ≡ None → g ≡ fault_of NotFound (told_by r.seat) → KindIs r i (Err g)
    not_found o x n g z f ex en e p = λ c t k s.
        rw (numbered o x n z f ex en c t k s ∙ ap (λ u. elim u as (λ _. Asked Step.Word) [ None ↦ refused NotFound (seen r i c t k s) | Some v ↦ given (Step.number v) ]) e) (p, refl)
