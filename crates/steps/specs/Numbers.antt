-- The number in the kernel table of each word that others compile.
use Rattle.std.specs.Prelude.{ℕ}
use Rattle.steps.specs.declared.tokens.CompiledWord.{CompiledWord}

abbrev pub compiled_number : CompiledWord → ℕ
compiled_number CompiledWord.Exit = 91
compiled_number CompiledWord.Literal = 98
compiled_number CompiledWord.Branch = 99
compiled_number CompiledWord.BranchIfZero = 100
compiled_number CompiledWord.Do = 101
compiled_number CompiledWord.Loop = 102
compiled_number CompiledWord.PlusLoop = 103
compiled_number CompiledWord.SemicolonCode = 104
compiled_number CompiledWord.TypeText = 105
