use Rattle.data_words.proofs.dividing.divide_word.Goals as goal

pub returns-in-Slash : goal.returns-in-Slash
returns-in-Slash c = rw c.in-Slash.is c.slash.ensures

pub returns-in-Mod : goal.returns-in-Mod
returns-in-Mod c = rw c.in-Mod.is c.modulo.ensures

pub returns-in-SlashMod : goal.returns-in-SlashMod
returns-in-SlashMod c = rw c.in-SlashMod.is c.slash_mod.ensures

pub returns-in-TimesSlash : goal.returns-in-TimesSlash
returns-in-TimesSlash c = rw c.in-TimesSlash.is c.times_slash.ensures
