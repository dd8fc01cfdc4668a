-- Lines of an exposition, and how they are spelled.
use Rattle.std.specs.Prelude.{◌≡◌, ℕ, ◌==◌, List, [], ◌∷◌, ◌++◌, cond, flat_map, codes}
use Rattle.otel_prometheus.specs.declared.text.formats.Format.{Format}
use Rattle.otel_prometheus.specs.declared.text.formats.Format.TheVariants as formats
use Rattle.otel_prometheus.specs.Samples.{Sample, IsSample, sample_text, AreAll, IsMetricName, is_letter}

-- the help text of a name, the type of a name, a sample, or the end of a text of OpenMetrics
pub data Line : Type 0 where
  help : List ℕ → List ℕ → Line
  kind : List ℕ → List ℕ → Line
  sample : Sample → Line
  finish : Line

-- what stands for a quote in a help text
abbrev pub quote_text : Format → List ℕ
quote_text formats.Prometheus = 34 ∷ []
quote_text formats.OpenMetrics = 92 ∷ 34 ∷ []

-- a backslash goes before a backslash, and the end of a line is `\n`
abbrev pub help_byte : Format → ℕ → List ℕ
help_byte f b = cond (b == 92) (92 ∷ 92 ∷ []) (cond (b == 10) (92 ∷ 110 ∷ []) (cond (b == 34) (quote_text f) (b ∷ [])))

abbrev pub help_text : Format → List ℕ → List ℕ
help_text f text = flat_map (help_byte f) text

abbrev pub spelled : Format → Line → List ℕ
spelled f (help n t) = codes "# HELP " ++ (n ++ 32 ∷ (help_text f t ++ 10 ∷ []))
spelled f (kind n w) = codes "# TYPE " ++ (n ++ 32 ∷ (w ++ 10 ∷ []))
spelled f (sample s) = sample_text s
spelled f finish = codes "# EOF\n"

abbrev pub text_of : Format → List Line → List ℕ
text_of f ls = flat_map (spelled f) ls

-- what may be spelled: any help text and any word of letters, of a name
abbrev pub IsLine : Line → Type 0
IsLine (help n t) = IsMetricName n
IsLine (kind n w) = IsMetricName n × AreAll is_letter w
IsLine (sample s) = IsSample s
IsLine finish = ⊥

abbrev pub AreLines : List Line → Type 0
AreLines [] = Unit {0}
AreLines (l ∷ ls) = IsLine l × AreLines ls

-- lines, and perhaps the end of the text
abbrev pub IsText : List Line → Type 0
IsText [] = Unit {0}
IsText (help n t ∷ ls) = IsLine (help n t) × IsText ls
IsText (kind n w ∷ ls) = IsLine (kind n w) × IsText ls
IsText (sample s ∷ ls) = IsLine (sample s) × IsText ls
IsText (finish ∷ ls) = ls ≡ []
