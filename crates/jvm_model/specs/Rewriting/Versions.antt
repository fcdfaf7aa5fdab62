-- Versions: the code of a method with its probes, and where its instructions come to stand. A probe pushes the method's
-- number and invokes a static method of jfluid/Probe, which takes it.
use Rattle.std.specs.Prelude.{◌≡◌, ℕ, ◌+◌, ◌≤◌, Bool, List, [], ◌∷◌, ◌++◌, length, map, max, None, nat_le, ◌&&◌, if◌then◌else◌}
use Rattle.const_pool.specs.declared.class.CodeAttribute.{CodeAttribute}
use Rattle.const_pool.specs.declared.class.Handler.{Handler}
use Rattle.const_pool.specs.Tail.{root_index, enter_index, leave_index, unwind_index}
use Rattle.code_model.specs.declared.instr.Instr.{Instr}
use Rattle.code_model.specs.declared.instr.Code.{Code}
use Rattle.code_model.specs.declared.laying.Group.{Group}
use Rattle.code_model.specs.declared.laying.Homes.{Homes}
use Rattle.code_model.specs.declared.laying.Laid.{Laid}
use Rattle.code_model.specs.Instructions.{IsReading}
use Rattle.code_model.specs.Layout.{u2, laid_of, home_of, first_far}
use Rattle.jvm_model.specs.declared.event.Mark.{Mark}
use Rattle.jvm_model.specs.declared.event.Mark.TheVariants.{Off, Plain, Root}

-- sipush with the method's number (its low sixteen bits), and invokestatic of the pool entry at this index: six bytes
abbrev pub probe_bytes : ℕ → ℕ → List ℕ
probe_bytes number index = (17 ∷ u2 number) ++ (184 ∷ u2 index)

-- the probe at the entry; `count` is the number of entries of the original pool, behind which the tail stands
abbrev pub entry_index : ℕ → Mark → ℕ
entry_index count Root = root_index count
entry_index count Plain = enter_index count
entry_index count Off = enter_index count

abbrev pub entry_probe : ℕ → ℕ → Mark → List ℕ
entry_probe count number mark = probe_bytes number (entry_index count mark)

abbrev pub leave_probe : ℕ → ℕ → List ℕ
leave_probe count number = probe_bytes number (leave_index count)

-- at the end the unwind probe, and athrow, which throws on
abbrev pub unwind_code : ℕ → ℕ → List ℕ
unwind_code count number = probe_bytes number (unwind_index count) ++ 191 ∷ []

-- ireturn, lreturn, freturn, dreturn, areturn and return
abbrev pub is_return_opcode : ℕ → Bool
is_return_opcode op = nat_le 172 op && nat_le op 177

-- the leave probe goes before each return, and nothing before the others
abbrev pub group_of : List ℕ → Instr → Group
group_of leave i = record { before = if is_return_opcode i.op then leave else []; instr = i }

abbrev pub groups_of : ℕ → ℕ → List Instr → List Group
groups_of count number instrs = map (group_of (leave_probe count number)) instrs

-- the code with its probes
abbrev pub laid_version : ℕ → ℕ → Mark → List Instr → Laid
laid_version count number mark instrs = laid_of (entry_probe count number mark) (groups_of count number instrs) (unwind_code count number)

-- a handler by homes; its catch type stays
abbrev pub moved_handler : Homes → Handler → Handler
moved_handler homes h = record h { start = home_of homes h.start; end = home_of homes h.end; handler = home_of homes h.handler }

-- The last handler takes whatever leaves the original code, to the unwind probe. Its range begins behind the entry
-- probe.
abbrev pub catch_all : Homes → ℕ → Handler
catch_all homes end = record { start = home_of homes 0; end = home_of homes end; handler = home_of homes end; catch_class = 0 }

-- the Code attribute of a version, of the code that was laid out, without its attributes: no step reads frames or debug
-- tables
abbrev pub code_with : CodeAttribute → Laid → CodeAttribute
code_with old laid = record old {
  max_stack = max (old.max_stack + 1) 2;
  code = laid.code;
  handlers = map (moved_handler laid.homes) old.handlers ++ catch_all laid.homes (length old.code) ∷ [];
  attributes = [];
}

-- The version of a method with this number, for a mark other than Off. A code has at most one reading. The version's
-- code fits, and its branches reach. What becomes of the attributes is said of the image.
pub record IsVersion (count number : ℕ) (mark : Mark) (old new : CodeAttribute) (homes : Homes) : Type 0 where
  pub reading : Code
  pub reads : IsReading old.code reading
  pub moved : homes ≡ (laid_version count number mark reading.instrs).homes
  pub code : record new { attributes = [] } ≡ code_with old (laid_version count number mark reading.instrs)
  pub short : length (laid_version count number mark reading.instrs).code ≤ 65535
  pub near : first_far (entry_probe count number mark) (groups_of count number reading.instrs) ≡ None
