use Rattle.std.specs.Prelude.{ℕ}
use Rattle.control_words.specs.declared.words.ControlWord.{ControlWord}

abbrev pub control_number : ControlWord → ℕ
control_number ControlWord.If = 80
control_number ControlWord.Else = 81
control_number ControlWord.Then = 82
control_number ControlWord.Begin = 83
control_number ControlWord.While = 84
control_number ControlWord.Repeat = 85
control_number ControlWord.Until = 86
control_number ControlWord.Do = 87
control_number ControlWord.Loop = 88
control_number ControlWord.PlusLoop = 89
