-- A word of the program, as the definitions see it.
use Rattle.gcode_text.specs.Grammar.{Word}
use Rattle.gcode_text.specs.declared.words.Word.{Word as WordRead}

-- the word's letter and number
abbrev pub word_of : WordRead → Word
word_of word = record { letter = word.letter; number = word.number.now }
