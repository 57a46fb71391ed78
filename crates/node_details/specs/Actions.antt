-- The actions of nodes (docs/GRAPH.md, "Actions").
use Rattle.std.specs.Prelude.{ℕ, Bool, true, false, cond, List, [], ◌∷◌, ◌+◌, Option, Some, None, nat_eq, slice_get}
use Rattle.std.specs.Option.{option_map}
use Rattle.opcodes.specs.declared.instruction.Instr.{Instr}
use Rattle.opcodes.specs.declared.instruction.Instr.TheVariants.{Getstatic, Ireturn, Monitorenter, Monitorexit, Putstatic, Return}
use Rattle.program.specs.Program.{Prog}
use Rattle.program.specs.declared.kind.Kind.{Kind}
use Rattle.program.specs.declared.kind.Kind.TheVariants as kind
use Rattle.program.specs.declared.method.Frame.{Frame}
use Rattle.program.specs.declared.method.Operand.{Operand}
use Rattle.program.specs.declared.method.Operand.TheVariants as operand
use Rattle.program.specs.declared.program.Variable.{Variable}
use Rattle.program.specs.declared.value_type.HeldMonitor.{HeldMonitor}
use Rattle.node_details.specs.Frames.{FrameThere}
use Rattle.node_details.specs.declared.doing.Act.{Act}

-- ---- What an instruction does

-- the action of this kind on what has this number, or on nothing
abbrev pub acts_on : Kind → ℕ → Act
acts_on kind number = record { kind = kind; operand = Some number }

-- a read, or a write, of the variable with this number
abbrev pub reads : ℕ → Variable → Act
reads number v = acts_on (cond v.volatile kind.VolatileRead kind.Read) number

abbrev pub writes : ℕ → Variable → Act
writes number v = acts_on (cond v.volatile kind.VolatileWrite kind.Write) number

-- getstatic reads a variable, and putstatic writes one
abbrev pub access : Prog → ℕ → Instr → Option Act
access p number (Getstatic index) = option_map (reads number) (slice_get p.variables number)
access p number (Putstatic index) = option_map (writes number) (slice_get p.variables number)
access p number _ = None

-- monitorenter locks a monitor, and monitorexit unlocks one
abbrev pub entering : ℕ → Instr → Option Act
entering monitor Monitorenter = Some (acts_on kind.Lock monitor)
entering monitor Monitorexit = Some (acts_on kind.Unlock monitor)
entering monitor _ = None

-- the monitor of a method with this frame
abbrev pub monitor_of : Option Frame → Option ℕ
monitor_of None = None
monitor_of (Some frame) = frame.monitor

-- the return of a synchronized method unlocks its monitor, where the method was called; so that of a thread's own method does
-- nothing
abbrev pub leaving : Bool → Option ℕ → Instr → Option Act
leaving true monitor Return = option_map (acts_on kind.Unlock) monitor
leaving true monitor Ireturn = option_map (acts_on kind.Unlock) monitor
leaving _ monitor _ = None

-- a thread that is asked for is found alive, or its end is detected
abbrev pub asking : ℕ → Bool → Option Act
asking thread true = None
asking thread false = Some (acts_on kind.Detect thread)

-- what the instruction of a frame does, which stands within others or not, and finds a thread alive or not
abbrev pub act_by : Prog → FrameThere → Bool → Bool → Operand → Option Act
act_by p f is_called alive (operand.Variable number) = access p number f.instr
act_by p f is_called alive (operand.Monitor monitor) = entering monitor f.instr
act_by p f is_called alive (operand.Method id) = option_map (acts_on kind.Lock) (monitor_of f.called)
act_by p f is_called alive (operand.Start thread) = Some (acts_on kind.Start thread)
act_by p f is_called alive (operand.Join thread) = Some (acts_on kind.Detect thread)
act_by p f is_called alive (operand.Alive thread) = asking thread alive
act_by p f is_called alive operand.Print = Some (record { kind = kind.Print; operand = None })
act_by p f is_called alive operand.Nothing = leaving is_called f.frame.monitor f.instr
act_by p f is_called alive _ = None

abbrev pub act_of : Prog → FrameThere → Bool → Bool → Option Act
act_of p f is_called alive = act_by p f is_called alive f.names

-- ---- How often monitors are held

-- how often a frame has entered the monitor by monitorenter and not left it again
abbrev pub entered : ℕ → List HeldMonitor → ℕ
entered monitor [] = 0
entered monitor (held ∷ more) = cond (nat_eq held.monitor monitor) held.count 0 + entered monitor more

-- whether the method of a frame, which is called, holds the monitor
abbrev pub own_lock : ℕ → Option ℕ → ℕ
own_lock monitor None = 0
own_lock monitor (Some own) = cond (nat_eq own monitor) 1 0

-- how often these frames, which are called, hold the monitor
abbrev pub held_within : ℕ → List FrameThere → ℕ
held_within monitor [] = 0
held_within monitor (f ∷ within) = entered monitor f.state.held + own_lock monitor f.frame.monitor + held_within monitor within

-- how often the frames of a thread hold the monitor, the outermost of which is not called
abbrev pub times_held : ℕ → List FrameThere → ℕ
times_held monitor [] = 0
times_held monitor (f ∷ within) = entered monitor f.state.held + held_within monitor within

-- a lock of a monitor that is not held, or an unlock of one that is held once, by these frames
abbrev pub outermost_by : List FrameThere → Kind → Option ℕ → Bool
outermost_by frames kind.Lock (Some monitor) = nat_eq (times_held monitor frames) 0
outermost_by frames kind.Unlock (Some monitor) = nat_eq (times_held monitor frames) 1
outermost_by frames _ _ = false

abbrev pub is_outermost : List FrameThere → Act → Bool
is_outermost frames act = outermost_by frames act.kind act.operand
