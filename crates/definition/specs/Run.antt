-- A run with a budget and a typing space, and what a fault leaves.
use Rattle.std.specs.Prelude.{ℕ, zero, suc, ◌+◌, ◌-◌, true, false, List, [], ◌++◌, length, nat_le}
use Rattle.fault.specs.declared.Fault.{Fault}
use Rattle.fault.specs.Numbers.{fault_of}
use Rattle.dictionary.specs.Dict.{given_up}
use Rattle.definition.specs.declared.registers.Source.{Source}
use Rattle.definition.specs.Ranges.{line_start}
use Rattle.definition.specs.Machine.{Machine, told, no_stacks, with_stacks, with_text, with_ip, with_compiling, changed}
use Rattle.definition.specs.Step
use Rattle.definition.specs.Step.{step}

-- Stacks, marks and loads are emptied, compiling stops, DP goes back to the open entry's beginning, and IP, BLK, >IN and the line's length are 0.
abbrev pub cleared : Machine → Machine
cleared m =
    let s : Source = record { length = 0; position = line_start; word = m.text.source.word } in
    changed given_up
    (with_compiling false
    (with_ip 0
    (with_stacks no_stacks
    (with_text (record { line = m.text.line; source = s; loads = [] }) m))))

pub data End : Type 0 where
  finished stopped : End
  faulted : Fault → End

-- what a run answers: how it ended, the bytes typed and the steps taken; and the machine behind it
pub record Report : Type 0 where
  pub end : End
  pub typed : List ℕ
  pub steps : ℕ
  pub machine : Machine

abbrev pub report : End → List ℕ → ℕ → Machine → Report
report e t n m = record { end = e; typed = t; steps = n; machine = m }

-- After n steps that typed these bytes: `budget` steps and `space` bytes are left. A step that types more than that is not taken; a faulting step counts.
abbrev pub run_from : ℕ → ℕ → List ℕ → ℕ → Machine → Report
run_from zero space typed n m = report stopped typed n m
run_from (suc budget) space typed n m =
    elim (step m) [
      | Step.finished m' ↦ report finished typed (n + 1) m'
      | Step.failed why m' ↦ report (faulted (fault_of why (told m'))) typed (n + 1) (cleared m')
      | Step.went a ↦
          elim (nat_le (length a.typed) space) [
            | true ↦ run_from budget (space - length a.typed) (typed ++ a.typed) (n + 1) a.machine
            | false ↦ report stopped typed n m
          ]
    ]

unfoldable pub run : ℕ → ℕ → Machine → Report
run budget space m = run_from budget space [] 0 m
