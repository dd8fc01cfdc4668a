-- Worked rows on the lines of a script and on what they say together. Many of them deny it.
use Rattle.std.specs.Prelude.{◌≡◌, ℕ, true, false, List, [], ◌∷◌, ◌++◌, ◌+◌, codes, length, map}
use Rattle.std.specs.Str.{IsUtf8}
use Rattle.std.proofs.Common.{refl, ap, get_or, inl, inr, lit<, subst, sym, ◌∙◌, append-nil, append_assoc, arith}
use Rattle.std.proofs.lemmas.List.Elements.{All-cons, All-nil}
use Rattle.otel_stream.specs.declared.observation.Observed.{Observed}
use Rattle.otel_stream.specs.declared.selector.SelectorView.{SelectorView}
use Rattle.otel_stream.specs.declared.wants.Wants.{Wants}
use Rattle.opentelemetry_sdk.specs.declared.calls.Call.{Call}
use Rattle.opentelemetry_sdk.specs.declared.calls.Call.TheVariants.{Collect, Flush, Meter, Shutdown, Unbind}
use Rattle.metrics_script.specs.CallLines.{IsCallLine}
use Rattle.metrics_script.specs.Calls.{IsIndexWord, IsObservedOf}
use Rattle.metrics_script.specs.ScriptLines.{is_comment, is_skipped, is_space, kept, lines_of, words_of}
use Rattle.metrics_script.specs.Scripts.{BeginsScript, IsBadAfter, IsCollectLine, IsFirstBad, IsNextCall, IsObserveLine, IsReaderLine, IsScript, IsViewLine, ReadsCalls, ReadsScript}
use Rattle.metrics_script.specs.Readers.{ReadsReader}
use Rattle.metrics_script.specs.Views.{ReadsView}
use Rattle.otel_stream.specs.Settings.{IsLawful}

-- ======== lines ========
pub two_lines : lines_of (codes "go\nflush\n") ≡ codes "go" ∷ codes "flush" ∷ []
two_lines = refl

pub last_line_without_end : lines_of (codes "go\nflush") ≡ codes "go" ∷ codes "flush" ∷ []
last_line_without_end = refl

pub no_lines : lines_of [] ≡ []
no_lines = refl

pub empty_lines : lines_of (codes "\n\n") ≡ [] ∷ [] ∷ []
empty_lines = refl

-- a carriage return is a byte of its line
pub carriage_return : lines_of (103 ∷ 111 ∷ 13 ∷ 10 ∷ []) ≡ (103 ∷ 111 ∷ 13 ∷ []) ∷ []
carriage_return = refl

-- ======== words ========
pub words_between_spaces : words_of (codes "  meter app   1.0 ") ≡ codes "meter" ∷ codes "app" ∷ codes "1.0" ∷ []
words_between_spaces = refl

-- a tab is a byte of its word
pub word_with_tab : words_of (103 ∷ 9 ∷ 111 ∷ []) ≡ (103 ∷ 9 ∷ 111 ∷ []) ∷ []
word_with_tab = refl

pub no_words : words_of (codes "   ") ≡ []
no_words = refl

pub space : is_space 32 ≡ true
space = refl

pub comment : is_comment (codes "#go") ≡ true
comment = refl

pub space_before : is_comment (codes " #go") ≡ false
space_before = refl

pub comment_skipped : is_skipped (codes "# go") ≡ true
comment_skipped = refl

pub spaces_skipped : is_skipped (codes "  ") ≡ true
spaces_skipped = refl

pub words_count : is_skipped (codes " #go") ≡ false
words_count = refl

pub lines_that_count : kept (codes "# calls" ∷ codes " go" ∷ [] ∷ codes "flush" ∷ codes " " ∷ []) ≡ codes " go" ∷ codes "flush" ∷ []
lines_that_count = refl

-- ======== lines before `go` ========
pub reader_line : (reader : Wants) → ReadsReader (codes "delta") (codes "limit=1" ∷ []) reader → IsReaderLine (words_of (codes "reader delta limit=1")) reader
reader_line reader reads = (refl, reads)

pub no_reader_line : (reader : Wants) → IsReaderLine (words_of (codes "view delta")) reader → ⊥
no_reader_line reader is = let other = is.0 in cc

pub view_line : (view : SelectorView) → ReadsView (codes "lat") (codes "limit=1" ∷ []) view → IsLawful view.stream → IsViewLine (words_of (codes "view lat limit=1")) view
view_line view reads lawful = (refl, reads, lawful)

pub unlawful_view : (view : SelectorView) → (IsLawful view.stream → ⊥) → IsViewLine (words_of (codes "view lat limit=0")) view → ⊥
unlawful_view view bad is = bad is.2

-- readers and views in the order of their lines
pub set_up_in_order : (a b : Wants) (v w : SelectorView) → IsReaderLine (words_of (codes "reader delta")) a → IsReaderLine (words_of (codes "reader cumulative")) b → IsViewLine (words_of (codes "view x")) v → IsViewLine (words_of (codes "view y")) w → ReadsScript (map words_of (kept (lines_of (codes "reader delta\nview x\n\nview y\nreader cumulative\ngo\n")))) (a ∷ b ∷ []) (v ∷ w ∷ []) []
set_up_in_order a b v w a_line b_line v_line w_line = inl (a, b ∷ [], a_line, refl, inr (inl (v, w ∷ [], v_line, refl, inr (inl (w, [], w_line, refl, inl (b, [], b_line, refl, inr (inr (refl, refl, refl, (refl, refl)))))))))

pub view_left_out : (readers : List Wants) (calls : List Call) → ReadsScript ((codes "view" ∷ codes "x" ∷ []) ∷ (codes "go" ∷ []) ∷ []) readers [] calls → ⊥
view_left_out readers calls (inl says) = let other = says.2.0 in cc
view_left_out readers calls (inr (inl says)) = let none = says.3 in cc
view_left_out readers calls (inr (inr says)) = let other = says.0 in cc

pub no_go : (readers : List Wants) (views : List SelectorView) (calls : List Call) → ReadsScript [] readers views calls → ⊥
no_go readers views calls says = says

pub call_before_go : (readers : List Wants) (views : List SelectorView) (calls : List Call) (rest : List (List (List ℕ))) → ReadsScript ((codes "flush" ∷ []) ∷ rest) readers views calls → ⊥
call_before_go readers views calls rest (inl says) = says.2
call_before_go readers views calls rest (inr (inl says)) = says.2
call_before_go readers views calls rest (inr (inr says)) = let other = says.0 in cc

-- ======== lines behind `go` ========
zero : IsIndexWord (codes "0") 0
zero = (((lit< tt, (lit< tt, tt)), lit< tt), refl)

seven : IsIndexWord (codes "7") 7
seven = (((lit< tt, (lit< tt, tt)), lit< tt), refl)

pub calls_in_order : ReadsScript (map words_of (kept (lines_of (codes "# calls\ngo\n\nflush\n unbind 7")))) [] [] (Flush ∷ Unbind 7 ∷ [])
calls_in_order = inr (inr (refl, refl, refl, inr (Flush, Unbind 7 ∷ [], inr (refl, refl), refl, inr (Unbind 7, [], inr (refl, (refl, seven)), refl, (refl, refl)))))

pub call_left_out : ReadsCalls [] ((codes "flush" ∷ []) ∷ []) [] → ⊥
call_left_out (inl says) = says.1
call_left_out (inr says) = let none = says.3 in cc

pub call_too_many : (calls : List Call) → ReadsCalls [] [] (Flush ∷ calls) → ⊥
call_too_many calls says = let none = says.1 in cc

pub observe_line : (observed : Observed) → IsObservedOf (codes "0") (codes "u:3") (codes "-") observed → IsObserveLine (words_of (codes "observe 0 u:3 -")) observed
observe_line observed is = (refl, is)

pub collect_line : (a : Observed) → IsCollectLine (a ∷ []) (words_of (codes "collect 0 7")) (Collect 0 7 (a ∷ []))
collect_line a = (refl, (zero, seven, refl))

pub observation_lost : (a : Observed) → IsCollectLine (a ∷ []) (words_of (codes "collect 0 7")) (Collect 0 7 []) → ⊥
observation_lost a is = let none = is.1.2 in cc

-- what is observed is for the next collection alone
pub observed_and_collected : (a b : Observed) → IsObserveLine (words_of (codes "observe 0 u:3 -")) a → IsObserveLine (words_of (codes "observe 1 u:4 -")) b → ReadsCalls [] (map words_of (kept (lines_of (codes "observe 0 u:3 -\n# more\nobserve 1 u:4 -\ncollect 0 7\ncollect 7 0\n")))) (Collect 0 7 (a ∷ b ∷ []) ∷ Collect 7 0 [] ∷ [])
observed_and_collected a b a_line b_line = inl (a, a_line, inl (b, b_line, inr (Collect 0 7 (a ∷ b ∷ []), Collect 7 0 [] ∷ [], inl (refl, (zero, seven, refl)), refl, inr (Collect 7 0 [], [], inl (refl, (seven, zero, refl)), refl, (refl, refl)))))

pub no_collection : (a : Observed) (calls : List Call) → ReadsCalls (a ∷ []) [] calls → ⊥
no_collection a calls says = let none = says.0 in cc

pub call_between : (a : Observed) (call : Call) → IsNextCall (a ∷ []) (codes "flush" ∷ []) call → ⊥
call_between a call (inl is) = is
call_between a call (inr is) = let none = is.0 in cc

pub second_go : (call : Call) → IsCallLine (codes "go" ∷ []) call → ⊥
second_go Flush is = let other = is in cc
second_go Shutdown is = let other = is in cc
second_go call is = is

pub reader_behind_go : (call : Call) → IsCallLine (codes "reader" ∷ codes "delta" ∷ []) call → ⊥
reader_behind_go (Meter scope) is = let other = is.0 in cc
reader_behind_go (Unbind handle) is = let first : ◌≡◌ {A = ℕ} 114 117 = ap (λ (word : List ℕ). get_or word 0 0) is.0 in absurd (omega (arith, first))
reader_behind_go call is = is

-- ======== scripts, and first bad lines ========
pub smallest : IsScript (codes "go" ∷ []) [] [] []
unfolding lib.Utf8.encode
smallest = (All-cons IsUtf8 (codes "go") [] (codes "go", (refl, refl)) (All-nil IsUtf8), inr (inr (refl, refl, refl, (refl, refl))))

-- a line that is skipped may have any bytes
pub comment_of_any_bytes : IsScript ((35 ∷ 255 ∷ []) ∷ codes "go" ∷ []) [] [] []
comment_of_any_bytes = smallest

pub nothing_begins : BeginsScript []
nothing_begins = (codes "go" ∷ [], [], [], [], smallest)

no_line : (readers : List Wants) (views : List SelectorView) (calls : List Call) (rest : List (List (List ℕ))) → ReadsScript ((codes "gone" ∷ []) ∷ rest) readers views calls → ⊥
no_line readers views calls rest (inl says) = says.2
no_line readers views calls rest (inr (inl says)) = says.2
no_line readers views calls rest (inr (inr says)) = let other = says.0 in cc

pub none_begins : BeginsScript (codes "gone" ∷ []) → ⊥
none_begins begins = no_line begins.1 begins.2 begins.3 (map words_of (kept begins.0)) begins.4.1

pub first_line_bad : IsFirstBad (codes "gone" ∷ codes "go" ∷ []) 1
first_line_bad = ([], codes "gone" ∷ codes "go" ∷ [], refl, refl, nothing_begins, none_begins)

pub no_line_at_all : IsFirstBad [] 1
no_line_at_all = ([], [], refl, refl, nothing_begins, λ readers views calls script. script.1)

pub go_missing : IsFirstBad ([] ∷ codes "# go" ∷ []) 3
go_missing = ([] ∷ codes "# go" ∷ [], [], refl, refl, (codes "go" ∷ [], [], [], [], smallest), λ readers views calls script. script.1)

two_is_late : (before rest : List (List ℕ)) → ◌≡◌ {A = List (List ℕ)} (codes "gone" ∷ []) (before ++ rest) → ◌≡◌ {A = ℕ} 2 (length before + 1) → ¬ BeginsScript before
two_is_late [] rest lines number begins = absurd (omega (arith, number))
two_is_late (line ∷ []) rest lines number begins = let same : codes "gone" ∷ [] ≡ line ∷ [] = cc in none_begins (subst BeginsScript (sym same) begins)
two_is_late (line ∷ next ∷ more) rest lines number begins = cc

pub bad_line_passed_over : IsFirstBad (codes "gone" ∷ []) 2 → ⊥
bad_line_passed_over bad = two_is_late bad.0 bad.1 bad.2 bad.3 bad.4

-- a script has no bad line
none_bad : (lines before rest : List (List ℕ)) (readers : List Wants) (views : List SelectorView) (calls : List Call) → IsScript lines readers views calls → lines ≡ before ++ rest → ¬ IsBadAfter before rest
none_bad lines before [] readers views calls script same bad = bad readers views calls (subst (λ (lines : List (List ℕ)). IsScript lines readers views calls) (same ∙ append-nil before) script)
none_bad lines before (line ∷ rest) readers views calls script same bad = bad (rest, readers, views, calls, subst (λ (lines : List (List ℕ)). IsScript lines readers views calls) (same ∙ sym (append_assoc before (line ∷ []) rest)) script)

pub script_has_none : (lines : List (List ℕ)) (readers : List Wants) (views : List SelectorView) (calls : List Call) (number : ℕ) → IsScript lines readers views calls → IsFirstBad lines number → ⊥
script_has_none lines readers views calls number script bad = none_bad lines bad.0 bad.1 readers views calls script bad.2 bad.5
