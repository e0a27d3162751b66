-- Each row of the kernel table asks and takes what its action needs.
use Rattle.std.proofs.Common.{◌≡◌, ℕ, ◌+◌, ◌-◌, ◌/◌, ◌<◌, Bool, true, false, not, eqb, ◌≢◌, List, [], ◌∷◌, ◌++◌, refl, arith, lit<, if◌then◌else◌}
use Rattle.std.specs.List.{AllByRecursion}
use Rattle.std.proofs.ByRecursion.{All-append}
use Rattle.std.proofs.lemmas.Bool.{leb-true, eqb-true, eqb-false}
use Rattle.std.proofs.lemmas.Nat.{and_le_l, or_lt, xor_lt}
use Rattle.numbers.specs.Cells.{flag, magnitude, is_negative}
use Rattle.entries.specs.Entries.{token_of}
use Rattle.dictionary.specs.Dict.{Dict}
use Rattle.definition.specs.Machine.{Machine, ip}
use Rattle.definition.specs.Asked.{Asked, ask, ◌>>◌, After}
use Rattle.fault.specs.declared.Reason.TheVariants.{NoDefinition, DefinitionOpen, WordRunning, NoWordRunning}
use Rattle.definition.specs.Kernel
use Rattle.definition.specs.Kernel.{Row, Asks, Action, stack_rows, space_rows, defining_rows, inside_rows}
use Rattle.definition.specs.Boot.{kernel}
use Rattle.definition.specs.Words.{Argument, all_asked}
use Rattle.step_changes.specs.Steady.{Cells, Steady}
use Rattle.step_changes.proofs.Leading.{Leads}
use Rattle.step_changes.proofs.Plain.{MakesCells}
use Rattle.step_changes.proofs.Spacing as spacing
use Rattle.step_changes.proofs.Compiling as compiling
use Rattle.step_changes.proofs.Flowing as flowing
use Rattle.step_changes.proofs.Defining as defining
use Rattle.step_changes.proofs.Taking.{Facts}

-- what an answer to a question of the state tells
abbrev Tells : Asks → Machine → Type 0
Tells Kernel.has_open m = m.names.opened ≢ 0
Tells Kernel.none_open m = m.names.opened ≡ 0
Tells Kernel.ip_zero m = Unit {0}
Tells Kernel.ip_set m = Unit {0}

abbrev pub AllTell : List Asks → Machine → Type 0
AllTell [] m = Unit {0}
AllTell (q ∷ qs) m = Tells q m × AllTell qs m

-- what an action is given by what its row took and asked
abbrev pub Given : Action → (a : Argument) → Steady a.machine → Type 0
Given (Kernel.cells w) a s = MakesCells w
Given (Kernel.space w) a s = spacing.Given a.machine s w
Given (Kernel.typing w) a s = Unit {0}
Given (Kernel.blocks w) a s = Unit {0}
Given (Kernel.defining w) a s = defining.Given a.machine s w a.bytes a.entry
Given (Kernel.compiling w) a s = (a.machine.names.opened ≢ 0) × compiling.Given a.machine w a.entry a.bytes
Given (Kernel.returns w) a s = Unit {0}
Given (Kernel.inlines w) a s = flowing.Given a.machine s w
Given Kernel.execute a s = Unit {0}
Given Kernel.tick a s = token_of a.machine.low a.entry < 65536
Given Kernel.to_body a s = Unit {0}
Given Kernel.comment a s = Unit {0}
Given Kernel.abort a s = Unit {0}

abbrev pub Proper : Row → Type 0
Proper r = (a : Argument) (s : Steady a.machine) → Facts r.takes a → AllTell r.asks a.machine → Given r.action a s

-- cells made of cells

flag_cell : (b : Bool) → flag b < 65536
flag_cell true = lit< tt
flag_cell false = lit< tt

either_cell : (b : Bool) (x y : ℕ) → x < 65536 → y < 65536 → (if b then x else y) < 65536
either_cell true x y p q = p
either_cell false x y p q = q

either_number : (b : Bool) (x y : ℕ) → x < 65536 → y < 65536 → if◌then◌else◌ b x y < 65536
either_number true x y p q = p
either_number false x y p q = q

magnitude_cell : (a : ℕ) → a < 65536 → magnitude a < 65536
magnitude_cell a h = go (is_negative a) refl
  where
    go : (b : Bool) → is_negative a ≡ b → if◌then◌else◌ b (65536 - a) a < 65536
    go true e = omega (arith, leb-true 32768 a e)
    go false e = h

either_cells : (b : Bool) (xs ys : List ℕ) → Cells xs → Cells ys → Cells (if b then xs else ys)
either_cells true xs ys p q = p
either_cells false xs ys p q = q

stack_proper : AllByRecursion Proper stack_rows
stack_proper = (
  (λ a s f k. λ x h. (h, (h, tt))),
  (
    (λ a s f k. λ x h. tt),
    (
      (λ a s f k. λ x y h k. (h, (k, tt))),
      (
        (λ a s f k. λ x y h k. (h, (k, (h, tt)))),
        (
          (λ a s f k. λ x y z h k j. (h, (j, (k, tt)))),
          (
            (λ a s f k. λ x h. either_cells (eqb x 0) (x ∷ []) (x ∷ x ∷ []) (h, tt) (h, (h, tt))),
            (
              (λ a s f k. λ m s. omega (arith, s.stacks.depth)),
              (
                (λ a s f k. tt),
                (
                  (λ a s f k. tt),
                  (
                    (λ a s f k. λ x y h k. (omega arith, tt)),
                    (
                      (λ a s f k. λ x y h k. (omega arith, tt)),
                      (
                        (λ a s f k. λ x y h k. (omega arith, tt)),
                        (
                          (λ a s f k. λ d q r. (q, tt)),
                          (
                            (λ a s f k. λ d q r. (r, tt)),
                            (
                              (λ a s f k. λ d q r. (q, (r, tt))),
                              (
                                (λ a s f k. tt),
                                (
                                  (λ a s f k. λ x h. (omega arith, tt)),
                                  (
                                    (λ a s f k. λ x h. (omega arith, tt)),
                                    (
                                      (λ a s f k. λ x h. (either_number (is_negative x) (32768 + x / 2) (x / 2) (omega arith) (omega arith), tt)),
                                      (
                                        (λ a s f k. λ x h. (omega arith, tt)),
                                        (
                                          (λ a s f k. λ x h. (magnitude_cell x h, tt)),
                                          (
                                            (λ a s f k. λ x y h k. (either_cell _ y x k h, tt)),
                                            (
                                              (λ a s f k. λ x y h k. (either_cell _ y x k h, tt)),
                                              (
                                                (λ a s f k. λ x y h k. (omega (arith, and_le_l x y), tt)),
                                                (
                                                  (λ a s f k. λ x y h k. (or_lt 16 x y h k, tt)),
                                                  (
                                                    (λ a s f k. λ x y h k. (xor_lt 16 x y h k, tt)),
                                                    (
                                                      (λ a s f k. λ x h. (omega arith, tt)),
                                                      (
                                                        (λ a s f k. λ x y h k. (flag_cell _, tt)),
                                                        (
                                                          (λ a s f k. λ x y h k. (flag_cell _, tt)),
                                                          (
                                                            (λ a s f k. λ x y h k. (flag_cell _, tt)),
                                                            (
                                                              (λ a s f k. λ x h. (flag_cell _, tt)),
                                                              (
                                                                (λ a s f k. λ x h. (flag_cell _, tt)),
                                                                ((λ a s f k. λ x y h k. (flag_cell _, tt)), tt),
                                                              ),
                                                            ),
                                                          ),
                                                        ),
                                                      ),
                                                    ),
                                                  ),
                                                ),
                                              ),
                                            ),
                                          ),
                                        ),
                                      ),
                                    ),
                                  ),
                                ),
                              ),
                            ),
                          ),
                        ),
                      ),
                    ),
                  ),
                ),
              ),
            ),
          ),
        ),
      ),
    ),
  ),
)

space_proper : AllByRecursion Proper space_rows
space_proper = (
  (λ a s f k. tt),
  (
    (λ a s f k. tt),
    (
      (λ a s f k. tt),
      (
        (λ a s f k. tt),
        (
          (λ a s f k. tt),
          (
            (λ a s f k. tt),
            (
              (λ a s f k. tt),
              (
                (λ a s f k. λ m s. lit< tt),
                (
                  (λ a s f k. lit< tt),
                  (
                    (λ a s f k. lit< tt),
                    (
                      (λ a s f k. λ m s. lit< tt),
                      (
                        (λ a s f k. λ m s. omega (arith, s.space.short)),
                        (
                          (λ a s f k. k.0),
                          (
                            (λ a s f k. k.0),
                            (
                              (λ a s f k. k.0),
                              (
                                (λ a s f k. tt),
                                (
                                  (λ a s f k. tt),
                                  (
                                    (λ a s f k. tt),
                                    (
                                      (λ a s f k. tt),
                                      (
                                        (λ a s f k. tt),
                                        (
                                          (λ a s f k. tt),
                                          (
                                            (λ a s f k. tt),
                                            (
                                              (λ a s f k. tt),
                                              (
                                                (λ a s f k. tt),
                                                ((λ a s f k. tt), tt),
                                              ),
                                            ),
                                          ),
                                        ),
                                      ),
                                    ),
                                  ),
                                ),
                              ),
                            ),
                          ),
                        ),
                      ),
                    ),
                  ),
                ),
              ),
            ),
          ),
        ),
      ),
    ),
  ),
)

defining_proper : AllByRecursion Proper defining_rows
defining_proper = (
  (λ a s f k. tt),
  (
    (λ a s f k. f),
    (
      (λ a s f k. tt),
      (
        (λ a s f k. tt),
        (
          (λ a s f k. tt),
          (
            (λ a s f k. (k.0, f)),
            (
              (λ a s f k. k.0),
              (
                (λ a s f k. (k.0, f)),
                (
                  (λ a s f k. (k.0, f)),
                  (
                    (λ a s f k. (k.0, f)),
                    (
                      (λ a s f k. (k.0, f)),
                      (
                        (λ a s f k. k.0),
                        (
                          (λ a s f k. k.0),
                          (
                            (λ a s f k. (k.0, f)),
                            (
                              (λ a s f k. (k.0, tt)),
                              (
                                (λ a s f k. (k.0, tt)),
                                (
                                  (λ a s f k. (k.0, tt)),
                                  (
                                    (λ a s f k. (k.0, f)),
                                    (
                                      (λ a s f k. (k.0, f)),
                                      (
                                        (λ a s f k. k.0),
                                        (
                                          (λ a s f k. (k.0, tt)),
                                          (
                                            (λ a s f k. (k.0, tt)),
                                            (
                                              (λ a s f k. (k.0, tt)),
                                              (
                                                (λ a s f k. (k.0, tt)),
                                                (
                                                  (λ a s f k. (k.0, tt)),
                                                  (
                                                    (λ a s f k. (k.0, tt)),
                                                    (
                                                      (λ a s f k. (k.0, tt)),
                                                      (
                                                        (λ a s f k. (k.0, tt)),
                                                        (
                                                          (λ a s f k. (k.0, tt)),
                                                          (
                                                            (λ a s f k. (k.0, lit< tt)),
                                                            (
                                                              (λ a s f k. (k.0, lit< tt)),
                                                              ((λ a s f k. (k.0, f)), tt),
                                                            ),
                                                          ),
                                                        ),
                                                      ),
                                                    ),
                                                  ),
                                                ),
                                              ),
                                            ),
                                          ),
                                        ),
                                      ),
                                    ),
                                  ),
                                ),
                              ),
                            ),
                          ),
                        ),
                      ),
                    ),
                  ),
                ),
              ),
            ),
          ),
        ),
      ),
    ),
  ),
)

inside_proper : AllByRecursion Proper inside_rows
inside_proper = (
  (λ a s f k. tt),
  (
    (λ a s f k. tt),
    (
      (λ a s f k. tt),
      (
        (λ a s f k. tt),
        (
          (λ a s f k. tt),
          (
            (λ a s f k. tt),
            (
              (λ a s f k. tt),
              (
                (λ a s f k. tt),
                (
                  (λ a s f k. tt),
                  (
                    (λ a s f k. tt),
                    (
                      (λ a s f k. tt),
                      (
                        (λ a s f k. tt),
                        (
                          (λ a s f k. tt),
                          (
                            (λ a s f k. k.0),
                            ((λ a s f k. tt), tt),
                          ),
                        ),
                      ),
                    ),
                  ),
                ),
              ),
            ),
          ),
        ),
      ),
    ),
  ),
)

pub kernel_proper : AllByRecursion Proper kernel
kernel_proper =
    All-append Proper stack_rows (space_rows ++ (defining_rows ++ inside_rows)) stack_proper
    (All-append Proper space_rows (defining_rows ++ inside_rows) space_proper (All-append Proper defining_rows inside_rows defining_proper inside_proper))

-- questions of the state, answered by a yes
pub leads_asked : (D : Dict) (m : Machine) (qs : List Asks) (rest : Asked After) → (AllTell qs m → Leads D rest) → Leads D (all_asked qs m >> rest)
leads_asked D m [] rest h = h tt
leads_asked D m (Kernel.has_open ∷ qs) rest h = go (eqb m.names.opened 0) refl (λ k. leads_asked D m qs rest k)
  where
    go : (b : Bool) → eqb m.names.opened 0 ≡ b → ((AllTell qs m → Leads D rest) → Leads D (all_asked qs m >> rest)) → Leads D ((ask m NoDefinition (not b) >> all_asked qs m) >> rest)
    go true e f = tt
    go false e f = f (λ k. h (eqb-false m.names.opened 0 e, k))
leads_asked D m (Kernel.none_open ∷ qs) rest h = go (eqb m.names.opened 0) refl (λ k. leads_asked D m qs rest k)
  where
    go : (b : Bool) → eqb m.names.opened 0 ≡ b → ((AllTell qs m → Leads D rest) → Leads D (all_asked qs m >> rest)) → Leads D ((ask m DefinitionOpen b >> all_asked qs m) >> rest)
    go true e f = f (λ k. h (eqb-true m.names.opened 0 e, k))
    go false e f = tt
leads_asked D m (Kernel.ip_zero ∷ qs) rest h = go (eqb (ip m) 0) (leads_asked D m qs rest (λ k. h (tt, k)))
  where
    go : (b : Bool) → Leads D (all_asked qs m >> rest) → Leads D ((ask m WordRunning b >> all_asked qs m) >> rest)
    go true f = f
    go false f = tt
leads_asked D m (Kernel.ip_set ∷ qs) rest h = go (not (eqb (ip m) 0)) (leads_asked D m qs rest (λ k. h (tt, k)))
  where
    go : (b : Bool) → Leads D (all_asked qs m >> rest) → Leads D ((ask m NoWordRunning b >> all_asked qs m) >> rest)
    go true f = f
    go false f = tt
