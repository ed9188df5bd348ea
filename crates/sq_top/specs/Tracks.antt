-- Where the functions of a file go by a certificate.
use Rattle.std.specs.Prelude.{◌≡◌, ℕ, Bool, List, Some, map, if◌then◌else◌}
use Rattle.std.specs.List.{AllZip}
use Rattle.std.specs.Option.{unwrap_or}
use Rattle.sq_elf.specs.Headers.{entry_of}
use Rattle.sq_elf.specs.Reading.{word_of}
use Rattle.sq_elf.specs.Text.{text_of}
use Rattle.sq_graph.specs.Graph.{Graph}
use Rattle.sq_graph.specs.Parts.{names_of}
use Rattle.sq_graph.specs.Places.{block_address}
use Rattle.sq_graph.specs.Slotted.{number_in, IsSlotted}
use Rattle.sq_reloc.specs.Outside.{code_word_at}
use Rattle.law_program.specs.Lifted.{lifted}
use Rattle.sq_names.specs.declared.track.Track.{Track}
use Rattle.sq_names.specs.declared.track.Track.TheVariants.{At, Gone}
use Rattle.sq_names.specs.Functions.{NamedFunction, functions_of}
use Rattle.sq_names.specs.Listing.{AreListed}
use Rattle.sq_lifted.specs.LiftedFiles.{IsLiftedFile}
use Rattle.sq_drive.specs.Checking.{IsFirstFault}
use Rattle.sq_drive.specs.Tracking.{carried, standing, AreTracked}
use Rattle.sq_top.specs.Proving.{Proves}

-- where a function is in the given file: gone where its word isn't reached, else the block that begins there, else inside one
abbrev pub begun : (ℕ → Bool) → Graph → NamedFunction → Track
begun is g function = if is function.value then standing (number_in (names_of g) 0 function.value) else Gone

-- so by the graph of the file that is named by addresses
abbrev pub begun_in : (bytes : List ℕ) (first : Graph) → IsLiftedFile bytes first → NamedFunction → Track
begun_in bytes first file = begun file.is (lifted file.is file.program)

-- a block by its address, in a text that starts at `lo`
abbrev pub addressed : Graph → ℕ → ℕ → Track
addressed g lo block = At (unwrap_or (block_address g lo block) 0)

-- THE TRACKS of the functions of a file, in their order: the certificate leads from the file's graph, whose blocks are named
-- by their places, to the last one; each step carries them on; and the blocks to which they lead are told by their addresses
pub record AreTracksOf (bytes text : List ℕ) (tracks : List Track) : Type 0 where
  pub first : Graph
  pub file : IsLiftedFile bytes first
  pub slotted : IsSlotted first
  pub last : Graph
  pub places : List Track
  pub tracked : AreTracked text first last (map (begun_in bytes first file) (functions_of bytes)) places
  pub tracks_are : tracks ≡ map (carried (addressed last (text_of bytes).lo)) places

-- a function is where the code word at this address of a file points: at the address that this word is to be, and is
pub record PointsTo (file : List ℕ) (at : ℕ) (track : Track) : Type 0 where
  pub to : ℕ
  pub code_word : code_word_at file at ≡ Some to
  pub stands : word_of file at ≡ Some to
  pub held : track ≡ At to

-- a function at the entry of the given file is tracked to the entry of the output, and one to which a code word of the given
-- file points to where the code word at this address of the output points
pub record KeepsFileStarts (given output : List ℕ) (function : NamedFunction) (track : Track) : Type 0 where
  pub entry : function.value ≡ entry_of given → track ≡ At (entry_of output)
  pub words : (at : ℕ) → code_word_at given at ≡ Some function.value → PointsTo output at track

-- THE TRACKS AGREE WITH THE OUTPUT, whatever output the certificate proves of the file: functions at its entry and those to
-- which its code words point are tracked to where the output has its entry and these words point
abbrev pub AgreeWithOutputs : (given text : List ℕ) → List Track → Type 0
AgreeWithOutputs given text tracks =
    (output : List ℕ) (count : ℕ) → Proves given output text count → AllZip (KeepsFileStarts given output) (functions_of given) tracks

-- the first line of the certificate that has no form or is no candidate, on the graph of the file
pub record FailsToTrack (bytes text : List ℕ) (line : ℕ) : Type 0 where
  pub first : Graph
  pub file : IsLiftedFile bytes first
  pub slotted : IsSlotted first
  pub fault : IsFirstFault text first line

-- THE LINES of a file and a certificate: those of its functions with their tracks, which agree with the output
pub record AreLinesOf (bytes text lines : List ℕ) : Type 0 where
  pub tracks : List Track
  pub are : AreTracksOf bytes text tracks
  pub agree : AgreeWithOutputs bytes text tracks
  pub listed : AreListed (functions_of bytes) tracks lines
