mod NotedForms
mod NotedSizes
mod NotedTexts
mod ShownLists
mod NotedVerdicts
mod BetterAnswers
