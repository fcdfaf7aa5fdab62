-- A frame goes on by what is known of its line as by the line.
use Rattle.std.proofs.Common.{◌≡◌, List, [], ◌∷◌, Option, Some, None, refl, sym, ap, ◌∙◌}
use Rattle.std.specs.Prelude.{map}
use Rattle.std.specs.Option.{option_map, option_map_or}
use Rattle.std.proofs.lemmas.Option.{none-some, same_Some}
use Rattle.frame_stack.specs.FrameLists.{PlacedFrame}
use Rattle.heap_objects.specs.declared.datum.Datum.{Datum}
use Rattle.jvm_model.specs.Basis.Data.{Instruction}
use Rattle.jvm_model.specs.declared.state.Frame.{Frame}
use Rattle.jvm_model.specs.declared.state.State.{State}
use Rattle.prepared_lines.specs.declared.line.Line.{Line}
use Rattle.prepared_code.specs.declared.passage.Passage.{Passage}
use Rattle.prepared_code.specs.declared.parts.Here.{Here}
use Rattle.prepared_code.specs.Making.{passage_of}
use Rattle.prepared_code.specs.Tables.{Versions}
use Rattle.prepared_code.specs.Versions.{instruction_in, line_at}
use Rattle.activations.specs.Applied.{gives_back_line, resumes_line}
use Rattle.activations.specs.Returning.{gives_back_by, resumes_by}
use Rattle.prepared_code.specs.States.{active, frame_in, here_of}

resumes-so : (s : State) (f : Frame) (d : Option Datum) (l : Option Line) → resumes_by s f d (option_map passage_of l) ≡ resumes_line s f d l
resumes-so s f d None = refl
resumes-so s f d (Some l) = refl

pub gives-back-so : (v : Versions) (s : State) (d : Option Datum) (fs : List PlacedFrame) (here : Here) (q : Option Passage) → here_of fs ≡ Some here
    → q ≡ option_map passage_of (line_at v here.version here.place) → gives_back_by s d q (map active fs) ≡ gives_back_line v s d (map active fs)
gives-back-so v s d [] here q is found = absurd (none-some here is)
gives-back-so v s d (f ∷ fs) here q is found =
    let there : line_at v here.version here.place ≡ line_at v f.version f.place = ap (λ (h : Here). line_at v h.version h.place) (sym (same_Some _ here is)) in
    ap (λ (o : Option Passage). gives_back_by s d o (map active (f ∷ fs))) (found ∙ ap (option_map passage_of) there)
    ∙ resumes-so (record s { stack = map active fs }) (frame_in f) d (line_at v f.version f.place)

own-of : (l : Option Line) → option_map_or (λ (q : Passage). q.own) (option_map passage_of l) 0 ≡ option_map_or (λ (i : Instruction). i.own) (option_map instruction_in l) 0
own-of None = refl
own-of (Some l) = refl

-- the offset of its instruction
pub own-so : (l : Option Line) (q : Option Passage) → q ≡ option_map passage_of l
    → option_map_or (λ (x : Passage). x.own) q 0 ≡ option_map_or (λ (i : Instruction). i.own) (option_map instruction_in l) 0
own-so l q found = ap (λ (o : Option Passage). option_map_or (λ x. x.own) o 0) found ∙ own-of l
