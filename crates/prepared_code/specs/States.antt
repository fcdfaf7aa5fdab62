-- The state of a run that the parts of a machine are.
use Rattle.std.specs.Prelude.{List, [], ◌∷◌, map, Option, Some, None}
use Rattle.frame_stack.specs.FrameLists.{PlacedFrame}
use Rattle.jvm_model.specs.declared.state.Entry.{Entry}
use Rattle.jvm_model.specs.declared.state.Entry.TheVariants.{Active}
use Rattle.jvm_model.specs.declared.state.Frame.{Frame}
use Rattle.jvm_model.specs.declared.state.State.{State}
use Rattle.prepared_code.specs.declared.parts.Parts.{Parts}
use Rattle.prepared_code.specs.declared.parts.Here.{Here}

-- a frame of the flat stack as one of a state
abbrev pub frame_in : PlacedFrame → Frame
frame_in f = record {
  method = f.method;
  version = f.version;
  place = f.place;
  locals = f.locals;
  operands = f.operands;
  max_locals = f.max_locals;
  max_stack = f.max_stack;
}

abbrev pub active : PlacedFrame → Entry
active f = Active (frame_in f)

-- with these frames
abbrev pub state_with : List PlacedFrame → Parts → State
state_with fs p = record {
  stack = map active fs;
  thrown = p.thrown;
  begun = p.begun;
  shared = p.runtime.shared;
  output = p.runtime.output;
  ending = p.ending;
}

abbrev pub state_in : Parts → State
state_in p = state_with p.frames.frames p

-- where the current frame stands
abbrev pub here_of : List PlacedFrame → Option Here
here_of [] = None
here_of (f ∷ fs) = Some (record { version = f.version; method = f.method; place = f.place })
