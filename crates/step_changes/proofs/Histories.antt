-- The laws over every history from boot.
use Rattle.std.proofs.Common.{◌≡◌, ℕ, ◌+◌, ◌-◌, ◌⊎◌, ◌++◌, length, sym, refl, ap, ◌∙◌, subst, inl, inr, arith, lit<}
use Rattle.std.proofs.lemmas.List.{length-append, length-replicate}
use Rattle.std.proofs.lemmas.Bool.{false≢true}
use Rattle.image.specs.Cells.{cell, zeros}
use Rattle.store.specs.Meaning.{Meaning}
use Rattle.dictionary.specs.Dict.{Dict, given_up}
use Rattle.dictionary.specs.Trim.{forgotten}
use Rattle.kernel.specs.Table as table
use Rattle.kernel.specs.Boot.{boot_dict, with_kernel, forth_alone}
use Rattle.forgetting.specs.Changes.{Change, colon, define, vocabulary, append, patch, semicolon, immediate, does, allot, seek, definitions, forget, give_up, Allowed, with_here}
use Rattle.forgetting.specs.Changes.{changed as changed_by}
use Rattle.forgetting.specs.Law as law
use Rattle.forgetting.specs.Law.{fence, Run, Begin, Keeps, still, and_still, Same}
use Rattle.forgetting.proofs.Trims.{append-bytes}
use Rattle.forgetting.proofs.Meeting.{forgets}
use Rattle.definition.specs.Machine.{Machine, dict_of}
use Rattle.definition.specs.Asked.{News, no_news, began, forgot}
use Rattle.definition.specs.Boot.{boot}
use Rattle.definition.specs.Step
use Rattle.definition.specs.Step.{Outcome, step}
use Rattle.step_changes.specs.Steady.{StoreHolds, Steady}
use Rattle.step_changes.specs.Laws as laws
use Rattle.step_changes.specs.Laws.{Quiet, Quietly, Begins, Turns, Stepped, Moment, goes, finishes, faults, given, aborts, changes_store, History, Forgot, Ends, Stands, outlives, StepForgets, SteadyAlways, CompilesOpen, MarksInside}
use Rattle.step_changes.proofs.Ranges.{bytes_cell, bytes_replicate, length-cell}
use Rattle.step_changes.proofs.Leading.{with_text_lem}
use Rattle.step_changes.proofs.Buffering.{with_store_lem}
use Rattle.step_changes.proofs.Stepping.{cleared_steady, step_changes}

-- boot

boot_here : boot_dict.here ≡ 34048
unfolding boot_dict with_kernel table.kernel forth_alone
boot_here = refl

boot_space : length (cell 10 ++ zeros 1278) ≡ 1280
boot_space = length-append (cell 10) (zeros 1278) ∙ omega (arith, length-cell 10, length-replicate {A = ℕ} 1278 0)

boot_dict_lem : (s : Meaning) → dict_of (boot s) ≡ boot_dict
unfolding boot
boot_dict_lem s =
    let D = boot_dict in
    let e : 32768 + length (cell 10 ++ zeros 1278) ≡ D.here = omega (arith, boot_space, boot_here) in
    λ i. record { low = D.low; here = e i; newest = D.newest; voc_link = D.voc_link; context = D.context; current = D.current; opened = D.opened }

pub boot_steady : (s : Meaning) → StoreHolds s → Steady (boot s)
unfolding boot
boot_steady s h = record {
  came = subst (Run boot_dict) (sym (boot_dict_lem s)) law.start;
  compiles = λ c. absurd (false≢true c);
  marks = tt;
  stacks = record { cells = tt; depth = omega arith; returns = tt };
  text = record { line = bytes_replicate 128 0 (lit< tt); reads = lit< tt; loads = tt };
  space = record { bytes = append-bytes (cell 10) (zeros 1278) (bytes_cell 10 (lit< tt)) (bytes_replicate 1278 0 (lit< tt)); long = omega (arith, boot_space); short = omega (arith, boot_space) };
  pointer = lit< tt;
  store = h;
}

-- each moment keeps a machine steady

at_step : (m : Machine) → Steady m → (o : Outcome) → step m ≡ o → Stepped m o
at_step m s o e = subst (Stepped m) e (step_changes m s)

moment_steady : {a b : Machine} → Steady a → Moment a b → Steady b
moment_steady {a} s (goes f p) = (at_step a s (Step.went f) p).1
moment_steady {a} s (finishes m' p) = subst Steady (sym (at_step a s (Step.finished m') p)) s
moment_steady {a} s (faults why m' p) = (at_step a s (Step.failed why m') p).1
moment_steady {a} s (given text b l) =
    with_text_lem a s _ (record { line = append-bytes text (zeros (128 - length text)) b (bytes_replicate (128 - length text) 0 (lit< tt)); reads = lit< tt; loads = s.text.loads })
moment_steady {a} s aborts = cleared_steady a a s (record { dictionary = refl; space = refl; line = refl; blocks = inl (refl, refl) })
moment_steady {a} s (changes_store d h) = with_store_lem a s a.buffer.held a.buffer.updated d h

history_steady : {m n : Machine} → Steady m → History m n → Steady n
history_steady s laws.here = s
history_steady s (laws.after h k) = moment_steady (history_steady s h) k

pub steady_always : SteadyAlways
steady_always s m h k = history_steady (boot_steady s h) k

pub compiles_open : CompilesOpen
compiles_open s m h k = (steady_always s m h k).compiles

pub marks_inside : MarksInside
marks_inside s m h k = (steady_always s m h k).marks

-- the word w outlives

quiet_lasts : (c : Change) → Quiet c → (w : ℕ) (D : Dict) → law.Ends c w D → ⊥
quiet_lasts (colon view name) q w D e = e
quiet_lasts (define view name code rest) q w D e = e
quiet_lasts (vocabulary view name) q w D e = e
quiet_lasts (append bytes) q w D e = e
quiet_lasts (patch a x) q w D e = e
quiet_lasts semicolon q w D e = e
quiet_lasts immediate q w D e = e
quiet_lasts (does x) q w D e = e
quiet_lasts (allot h) q w D e = e
quiet_lasts (seek v) q w D e = e
quiet_lasts definitions q w D e = e
quiet_lasts (forget y) q w D e = q
quiet_lasts give_up q w D e = q

begin_lasts : (c : Change) → Begin c → (w : ℕ) (D : Dict) → law.Ends c w D → ⊥
begin_lasts (colon view name) q w D e = e
begin_lasts (define view name code rest) q w D e = e
begin_lasts (vocabulary view name) q w D e = e
begin_lasts (append bytes) q w D e = e
begin_lasts (patch a x) q w D e = e
begin_lasts semicolon q w D e = e
begin_lasts immediate q w D e = e
begin_lasts (does x) q w D e = e
begin_lasts (allot h) q w D e = e
begin_lasts (seek v) q w D e = e
begin_lasts definitions q w D e = e
begin_lasts (forget y) q w D e = q
begin_lasts give_up q w D e = q

keeps_quietly : {w : ℕ} {A D E : Dict} → Keeps w A D → Quietly D E → Keeps w A E
keeps_quietly k laws.stays = k
keeps_quietly {w} k (laws.and_then {A = B} c q a h) = and_still c (keeps_quietly k q) a (quiet_lasts c h w B)

-- data space may be allotted right behind a beginning
keeps_behind : (w : ℕ) (A D E : Dict) (c : Change) → Keeps w A (changed_by c D) → (E ≡ changed_by c D) ⊎ ((h : ℕ) × (E ≡ with_here h (changed_by c D)) × ((changed_by c D).opened ≡ 0)) → Keeps w A E
unfolding changed_by
keeps_behind w A D E c k (inl e) = subst (Keeps w A) (sym e) k
keeps_behind w A D E c k (inr (h, e, z)) = subst (Keeps w A) (sym e) (and_still (allot h) k z (λ x. x))

keeps_turn : (w : ℕ) (A D E : Dict) (n : News) → Keeps w A D → Turns n D E → ¬ Forgot n w → Keeps w A E
unfolding changed_by
keeps_turn w A D E no_news k t l = keeps_quietly k t
keeps_turn w A D E (began y) k t l = keeps_behind w A D E t.change (and_still t.change k t.allowed (begin_lasts t.change t.begin w D)) t.behind
keeps_turn w A D E (forgot y) k t l = subst (Keeps w A) (sym t.1) (and_still (forget y) k t.0 l)

keeps_given_up : (w : ℕ) (A D : Dict) → Keeps w A D → ¬ (D.opened ≡ w) → Keeps w A (given_up D)
unfolding changed_by
keeps_given_up w A D k l = and_still give_up k tt l

keeps_moment : (w : ℕ) (A : Dict) {a b : Machine} → Steady a → Keeps w A (dict_of a) → (k : Moment a b) → ¬ Ends w k → Keeps w A (dict_of b)
keeps_moment w A {a} s k (goes f p) l = keeps_turn w A (dict_of a) (dict_of f.machine) f.news k (at_step a s (Step.went f) p).0 l
keeps_moment w A {a} s k (finishes m' p) l = subst (λ m. Keeps w A (dict_of m)) (sym (at_step a s (Step.finished m') p)) k
keeps_moment w A {a} s k (faults why m' p) l = subst (Keeps w A) (sym (at_step a s (Step.failed why m') p).0) (keeps_given_up w A (dict_of a) k l)
keeps_moment w A {a} s k (given text b n) l = k
keeps_moment w A {a} s k aborts l = keeps_given_up w A (dict_of a) k l
keeps_moment w A {a} s k (changes_store d h) l = k

abbrev Standing : ℕ → Dict → Machine → Type 0
Standing w A m = Steady m × Keeps w A (dict_of m)

keeps_standing : (w : ℕ) (A : Dict) {m n : Machine} → Standing w A m → Stands w m n → Standing w A n
keeps_standing w A k laws.still = k
keeps_standing w A k (outlives h c l) = let p = keeps_standing w A k h in (moment_steady p.0 c, keeps_moment w A p.0 p.1 c l)

-- the law

begun_as : (D E : Dict) (n : News) (e : ℕ) → n ≡ began e → Turns n D E → Begins e D E
begun_as D E n e p t = subst (λ n. Turns n D E) p t

forgot_as : (D E : Dict) (n : News) (e : ℕ) → n ≡ forgot e → Turns n D E → Allowed fence (forget e) D × (E ≡ forgotten e D)
forgot_as D E n e p t = subst (λ n. Turns n D E) p t

pub step_forgets : StepForgets
step_forgets e before found begun done t =
    let s = history_steady (boot_steady t.store t.store_holds) t.history in
    let p = at_step before s (Step.went begun) t.begins in
    let b = begun_as (dict_of before) (dict_of begun.machine) begun.news e t.word p.0 in
    let A = changed_by b.change (dict_of before) in
    let k : Standing e A begun.machine = (p.1, keeps_behind e A (dict_of before) (dict_of begun.machine) b.change still b.behind) in
    let f = keeps_standing e A k t.standing in
    let q = at_step found f.0 (Step.went done) t.forgets in
    let g = forgot_as (dict_of found) (dict_of done.machine) done.news e t.gone q.0 in
    let r = forgets (dict_of before) (dict_of found) (record {
      before = s.came;
      beginning = b.change;
      begins = b.begin;
      allowed = b.allowed;
      standing = subst (λ w. Keeps w A (dict_of found)) b.next f.1;
      found = subst (λ w. Allowed fence (forget w) (dict_of found)) b.next g.0;
    }) in
    subst (λ F. Same F (dict_of before)) (sym (g.1 ∙ ap (λ w. forgotten w (dict_of found)) b.next)) r
