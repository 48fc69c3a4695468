-- The words that say which drawing a command is about.
use Rattle.std.specs.Prelude.{◌≡◌, ℕ, ◌≤◌, Bool, true, false, if◌then◌else◌, Option, Some, None, IfSome, List, [], ◌∷◌, codes, length, option_and_then}
use Rattle.std.specs.Str.{chars}
use Rattle.plane_exact.specs.Cone.{IsFromOneTo}
use Rattle.job_words.specs.Command.{needed, optional}
use Rattle.job_words.specs.Options.{OptionRow}
use Rattle.job_words.specs.Values.{charspace_of, chord_of, cross_of, form_of, height_of, justify_of, linespace_of, pixel_of, snap_of, text_of, units_of, width_of, wordspace_of, yes_of}
use Rattle.job_words.specs.declared.request.DrawingWords.{DrawingWords}
use Rattle.job_words.specs.declared.request.FormWord.{FormWord}
use Rattle.job_words.specs.declared.request.FormWord.TheVariants.{Cxf}
use Rattle.job_words.specs.declared.shape.Lettering.{Lettering}

-- the options of a drawing, which every command has that reads one
unfoldable pub shape_options : List OptionRow
shape_options =
    needed (codes "drawing") ∷ optional (codes "form") ∷ optional (codes "units") ∷ optional (codes "chord") ∷ optional (codes "snap")
    ∷ optional (codes "pixel") ∷ optional (codes "text") ∷ optional (codes "height") ∷ optional (codes "width") ∷ optional (codes "charspace")
    ∷ optional (codes "wordspace") ∷ optional (codes "linespace") ∷ optional (codes "justify") ∷ optional (codes "mirror") ∷ optional (codes "flip")
    ∷ optional (codes "cross") ∷ []

-- how a text is laid out, of the values of its options, where each of them is there
unfoldable pub lettering_of : (List ℕ → Option (List ℕ)) → Option Lettering
lettering_of value =
    option_and_then (λ height. option_and_then (λ width. option_and_then (λ charspace. option_and_then (λ wordspace. option_and_then (λ linespace.
    option_and_then (λ justify. option_and_then (λ mirror. option_and_then (λ flip.
    Some (record {
      height = height;
      width = width;
      charspace = charspace;
      wordspace = wordspace;
      linespace = linespace;
      justify = justify;
      mirror = mirror;
      flip = flip;
    }))
    (yes_of (value (codes "flip"))))
    (yes_of (value (codes "mirror"))))
    (justify_of (value (codes "justify"))))
    (linespace_of (value (codes "linespace"))))
    (wordspace_of (value (codes "wordspace"))))
    (charspace_of (value (codes "charspace"))))
    (width_of (value (codes "width"))))
    (height_of (value (codes "height")))

-- a font draws nothing without a text
abbrev pub is_worded : FormWord → Option (List ℕ) → Bool
is_worded Cxf None = false
is_worded form text = true

-- the words of a drawing, of the values of its options, where each of them is there
unfoldable pub shape_of : (List ℕ → Option (List ℕ)) → Option DrawingWords
shape_of value =
    option_and_then (λ form. option_and_then (λ units. option_and_then (λ chord. option_and_then (λ snap. option_and_then (λ pixel.
    option_and_then (λ text. option_and_then (λ lettering. option_and_then (λ cross. option_and_then (λ drawing.
    if is_worded form text
    then Some (record {
      drawing = drawing;
      form = form;
      units = units;
      chord = chord;
      snap = snap;
      pixel = pixel;
      text = text;
      height = lettering.height;
      width = lettering.width;
      charspace = lettering.charspace;
      wordspace = lettering.wordspace;
      linespace = lettering.linespace;
      justify = lettering.justify;
      mirror = lettering.mirror;
      flip = lettering.flip;
      cross = cross;
    })
    else None)
    (value (codes "drawing")))
    (cross_of (value (codes "cross"))))
    (lettering_of value))
    (text_of (value (codes "text"))))
    (pixel_of (value (codes "pixel"))))
    (snap_of (value (codes "snap"))))
    (chord_of (value (codes "chord"))))
    (units_of (value (codes "units"))))
    (form_of (value (codes "form")))

-- n is from the least to the most
pub record IsFromTo (least most n : ℕ) : Type 0 where
  pub low : least ≤ n
  pub high : n ≤ most

-- the ranges of how a text is laid out
pub record IsLetteringInRange (height width charspace wordspace linespace : ℕ) : Type 0 where
  pub tall : IsFromOneTo 32767 height
  pub wide : IsFromTo 10 500 width
  pub apart : charspace ≤ 500
  pub words_apart : wordspace ≤ 500
  pub lines_apart : IsFromTo 10 500 linespace

-- the ranges of the numbers of a drawing's words, and that a font has a text
pub record IsShapeInRange (shape : DrawingWords) : Type 0 where
  pub chord : IsFromOneTo 90 shape.chord
  pub snap : shape.snap ≤ 16
  pub pixel : IsFromOneTo 1000 shape.pixel
  pub text : IfSome shape.text (λ letters. length (chars letters) ≤ 200)
  pub lettering : IsLetteringInRange shape.height shape.width shape.charspace shape.wordspace shape.linespace
  pub worded : is_worded shape.form shape.text ≡ true
